use Rattle.std.proofs.Common.{◌≡◌, map, take}
use Rattle.qd_base.specs.Rows.{cell_at}
use Rattle.qd_meaning.specs.Answer.{output_row}
use Rattle.qd_order.specs.Keys.{lent}
use Rattle.qd_order.proofs.columns.keys_of_rows.Given as goal

-- the keys of the rows so far
abbrev pub invariant-loop-row : goal.invariant-loop-row
invariant-loop-row l = map lent l.keys.items ≡ map (λ r. cell_at (output_row l.plan.picks l.plan.out r) l.at) (take l.row-index l.rows)
