use Rattle.std.proofs.Common.{◌≡◌, map, take}
use Rattle.qd_order.specs.Cuts.{shown_rows}
use Rattle.qd_order.specs.Orders.{keyed}
use Rattle.qd_order.specs.Seen.{seen}
use Rattle.qd_order.proofs.columns.columns_of_rows.Given as goal

-- the columns of the keys so far
abbrev pub invariant-loop-key : goal.invariant-loop-key
invariant-loop-key l = map seen l.columns.items ≡ map (keyed (shown_rows l.plan l.rows)) (take l.key-index l.key-items)
