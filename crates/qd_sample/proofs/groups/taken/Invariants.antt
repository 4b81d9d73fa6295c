use Rattle.std.proofs.Common.{◌≡◌, map, slice_index, take}
use Rattle.qd_sample.proofs.groups.taken.Given as goal

-- the numbers at the places so far
abbrev pub invariant-loop-place : goal.invariant-loop-place
invariant-loop-place l = l.found.items ≡ map (λ i. slice_index l.numbers i) (take l.place-index l.places)
