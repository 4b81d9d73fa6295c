use Rattle.std.proofs.Common.{◌≡◌, length}
use Rattle.qd_latest.specs.Lasts.{AreLast}
use Rattle.qd_latest.proofs.lasts.last_places.Given as goal

-- the last places among the numbers so far
abbrev pub invariant-loop-i : goal.invariant-loop-i
invariant-loop-i l = AreLast l.numbers l.i l.last.items × (length l.last.items ≡ l.bound)
