use Rattle.std.proofs.Common.{◌≡◌, map, take}
use Rattle.qd_apply.specs.Plans as plans
use Rattle.qd_store.specs.Grown.{growth_of}
use Rattle.qd_store.proofs.merging.behind.Given as goal

abbrev pub invariant-loop-one : goal.invariant-loop-one
invariant-loop-one l = map growth_of l.list.items ≡ map plans.growth_of (take l.one-index l.grown)
