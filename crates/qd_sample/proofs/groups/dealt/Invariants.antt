use Rattle.std.proofs.Common.{◌≡◌, map}
use Rattle.std.specs.List.{range_with_len}
use Rattle.qd_sample.proofs.Deals.{hand}
use Rattle.qd_sample.proofs.groups.dealt.Given as goal

-- the items so far, by their classes
abbrev pub invariant-loop-item : goal.invariant-loop-item
invariant-loop-item l = map (λ v. v.items) l.lists.items ≡ map (hand l.classes l.items l.item-index) (range_with_len 0 l.count)
