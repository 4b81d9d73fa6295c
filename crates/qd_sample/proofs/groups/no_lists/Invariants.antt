use Rattle.std.proofs.Common.{◌≡◌, [], map}
use Rattle.std.specs.List.{range_with_len}
use Rattle.qd_sample.proofs.groups.no_lists.Given as goal

-- the lists so far are empty
abbrev pub invariant-loop : goal.invariant-loop
invariant-loop l = map (λ v. v.items) l.lists.items ≡ map (λ c. []) (range_with_len 0 l.counter)
