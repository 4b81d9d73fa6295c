use Rattle.std.proofs.Common.{◌≡◌, get_or, map}
use Rattle.std.specs.List.{range_with_len}
use Rattle.qd_group.proofs.classes.grouped_by_pairs.Given as goal

-- the pairs so far
abbrev pub invariant-loop-i : goal.invariant-loop-i
invariant-loop-i l = l.pairs.items ≡ map (λ i. (get_or l.numbers i 0, get_or l.further i 0)) (range_with_len 0 l.i)
