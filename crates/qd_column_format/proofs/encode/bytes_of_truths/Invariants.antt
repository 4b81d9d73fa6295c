use Rattle.std.proofs.Common.{◌≡◌, map, take}
use Rattle.qd_base.specs.declared.cell.Cell.TheVariants as cell
use Rattle.qd_column_format.specs.Fields.{truth_field}
use Rattle.qd_column_format.proofs.encode.bytes_of_truths.Given as goal

-- the bytes of the values so far
abbrev pub invariant-loop-truth : goal.invariant-loop-truth
invariant-loop-truth l = l.bytes.items ≡ map (λ b. truth_field (cell.Bool b)) (take l.truth-index l.truths)
