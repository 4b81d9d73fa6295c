use Rattle.std.proofs.Common.{◌≡◌, map, get_or}
use Rattle.std.specs.List.{range_with_len}
use Rattle.qd_block.proofs.order.places_of.Given as goal

-- the places so far, each with its time
abbrev pub invariant-loop-place : goal.invariant-loop-place
invariant-loop-place l = l.places.items ≡ map (λ i. record { time = get_or l.times i 0; place = i }) (range_with_len 0 l.place)
