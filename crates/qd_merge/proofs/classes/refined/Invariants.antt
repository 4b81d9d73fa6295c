use Rattle.std.proofs.Common.{◌≡◌, get_or, map}
use Rattle.std.specs.List.{range_with_len}
use Rattle.qd_merge.proofs.classes.refined.Given as goal

-- the pairs so far
abbrev pub invariant-loop-place : goal.invariant-loop-place
invariant-loop-place l = l.pairs.items ≡ map (λ i. (get_or l.classes i 0, get_or l.numbers i 0)) (range_with_len 0 l.place)
