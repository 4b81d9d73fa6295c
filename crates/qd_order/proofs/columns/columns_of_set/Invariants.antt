use Rattle.std.proofs.Common.{◌≡◌, map, take}
use Rattle.qd_meaning.specs.Grouped.{key_of}
use Rattle.qd_rows.specs.Sets.{rows_in}
use Rattle.qd_order.specs.Cuts.{shown_rows}
use Rattle.qd_order.specs.Orders.{keyed}
use Rattle.qd_order.specs.Seen.{seen}
use Rattle.qd_order.proofs.columns.columns_of_set.Given as goal

-- the columns of the keys so far
abbrev pub invariant-loop-key : goal.invariant-loop-key
invariant-loop-key g l = map seen l.columns.items ≡ map (keyed (shown_rows l.plan (map (key_of l.exprs) (rows_in l.rows)))) (take l.key-index l.key-items)
