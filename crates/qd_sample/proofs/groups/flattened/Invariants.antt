use Rattle.std.proofs.Common.{◌≡◌, take}
use Rattle.std.specs.List.{flat_map}
use Rattle.qd_sample.proofs.groups.flattened.Given as goal

-- the lists so far
abbrev pub invariant-loop-list : goal.invariant-loop-list
invariant-loop-list l = l.flat.items ≡ flat_map (λ v. v.items) (take l.list-index l.lists)
