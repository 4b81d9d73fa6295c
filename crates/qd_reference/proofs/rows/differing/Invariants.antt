use Rattle.std.proofs.Common.{◌≡◌, not, filter, take}
use Rattle.qd_base.specs.Rows.{same_on}
use Rattle.qd_reference.proofs.rows.differing.Given as goal

-- of the rows so far those that differ are there
abbrev pub invariant-loop-other : goal.invariant-loop-other
invariant-loop-other l = l.out ≡ filter (λ x. not (same_on l.keys x l.row)) (take l.other-index l.other-items)
