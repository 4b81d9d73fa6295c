use Rattle.std.proofs.Common.{◌≡◌, ◌++◌, filter, map, take}
use Rattle.qd_order.specs.Orders.{before}
use Rattle.qd_order.specs.Seen.{seen}
use Rattle.qd_order.proofs.sorting.push_behind.Given as goal

-- those so far before which the new one stands
abbrev pub invariant-loop-other : goal.invariant-loop-other
invariant-loop-other l = l.all.items ≡ l.initial.all.items ++ filter (λ y. before (map seen l.columns) l.place y) (take l.other-index l.places)
