use Rattle.std.proofs.Common.{◌≡◌, take}
use Rattle.std.specs.Str.{str_to_ascii_lowercase}
use Rattle.qd_writes.proofs.met.lowered.Given as goal

-- the bytes so far
abbrev pub invariant-loop-byte : goal.invariant-loop-byte
invariant-loop-byte l = l.made.items ≡ str_to_ascii_lowercase (take l.byte-index l.text)
