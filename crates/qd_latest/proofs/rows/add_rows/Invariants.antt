use Rattle.qd_latest.proofs.PlaceLemmas.{IsTaken}
use Rattle.qd_latest.proofs.rows.add_rows.Given as goal

-- the rows before the next one
abbrev pub invariant-loop-place : goal.invariant-loop-place
invariant-loop-place g l = IsTaken l.rows l.places l.kept l.place-index l.next
