use Rattle.std.proofs.Common.{◌≡◌, map, drop}
use Rattle.qd_order.specs.Orders.{compared}
use Rattle.qd_order.specs.Seen.{seen}
use Rattle.qd_order.proofs.compare.compare.Given as goal

-- the keys that are left decide
abbrev pub invariant-loop-column : goal.invariant-loop-column
invariant-loop-column l = compared (map seen (drop l.column-index l.columns)) l.i l.j ≡ compared (map seen l.columns) l.i l.j
