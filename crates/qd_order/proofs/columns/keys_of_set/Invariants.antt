use Rattle.std.proofs.Common.{◌≡◌, map, take}
use Rattle.qd_base.specs.Rows.{cell_at}
use Rattle.qd_meaning.specs.Answer.{output_row}
use Rattle.qd_meaning.specs.Grouped.{key_of}
use Rattle.qd_rows.specs.Sets.{rows_in}
use Rattle.qd_order.specs.Keys.{lent}
use Rattle.qd_order.proofs.columns.keys_of_set.Given as goal

-- the keys of the rows so far
abbrev pub invariant-loop-i : goal.invariant-loop-i
invariant-loop-i g l = map lent l.keys.items ≡ map (λ r. cell_at (output_row l.plan.picks l.plan.out (key_of l.exprs r)) l.at) (take l.i (rows_in l.rows))
