use Rattle.std.proofs.Common.{◌≡◌, map, drop}
use Rattle.qd_order.specs.Orders.{before}
use Rattle.qd_order.specs.Seen.{seen}
use Rattle.qd_order.proofs.compare.comes_first.Given as goal

-- the keys that are left decide
abbrev pub invariant-loop-column : goal.invariant-loop-column
invariant-loop-column l = before (map seen (drop l.column-index l.columns)) l.i l.j ≡ before (map seen l.columns) l.i l.j
