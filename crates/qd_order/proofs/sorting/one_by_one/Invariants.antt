use Rattle.std.proofs.Common.{◌≡◌, map}
use Rattle.std.specs.List.{range_with_len}
use Rattle.qd_order.specs.Orders.{arranged, before}
use Rattle.qd_order.specs.Seen.{seen}
use Rattle.qd_order.proofs.sorting.one_by_one.Given as goal

-- the positions so far, in order
abbrev pub invariant-loop-place : goal.invariant-loop-place
invariant-loop-place l = l.places.items ≡ arranged (before (map seen l.columns)) (range_with_len 0 l.place)
