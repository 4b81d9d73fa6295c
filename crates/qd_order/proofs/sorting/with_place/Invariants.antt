use Rattle.std.proofs.Common.{◌≡◌, filter, not, map, take}
use Rattle.qd_order.specs.Orders.{before}
use Rattle.qd_order.specs.Seen.{seen}
use Rattle.qd_order.proofs.sorting.with_place.Given as goal

-- those so far before which the new one doesn't stand
abbrev pub invariant-loop-other : goal.invariant-loop-other
invariant-loop-other l = l.all.items ≡ filter (λ y. not (before (map seen l.columns) l.place y)) (take l.other-index l.places)
