use Rattle.std.proofs.Common.{◌≡◌, map, take}
use Rattle.qd_block.specs.declared.order.Placed.{Placed}
use Rattle.qd_block.proofs.order.places_in_order.Given as goal

-- the numbers of the places so far
abbrev pub invariant-loop-moment : goal.invariant-loop-moment
invariant-loop-moment l = l.places.items ≡ map (λ (p : Placed). p.place) (take l.moment-index l.moment-items)
