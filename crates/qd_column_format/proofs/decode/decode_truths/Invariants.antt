use Rattle.std.proofs.Common.{◌≡◌, map, take}
use Rattle.qd_base.specs.declared.cell.Cell.TheVariants as cell
use Rattle.qd_column_format.specs.Fields.{truth_field}
use Rattle.qd_column_format.proofs.decode.decode_truths.Given as goal

-- the bytes so far are truth values
abbrev pub invariant-loop-at : goal.invariant-loop-at
invariant-loop-at g l = take l.at l.main ≡ map (λ b. truth_field (cell.Bool b)) l.truths.items
