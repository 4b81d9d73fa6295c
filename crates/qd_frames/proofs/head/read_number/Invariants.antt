use Rattle.std.proofs.Common.{◌≤◌, take}
use Rattle.qd_frames.proofs.NumberLemmas.{Spelled}
use Rattle.qd_frames.proofs.head.read_number.Given as goal

-- the bytes so far are the digits of the number so far
abbrev pub invariant-loop-i : goal.invariant-loop-i
invariant-loop-i l = record { small : l.value ≤ l.most; spelled : Spelled (take l.i l.bytes) l.value }
