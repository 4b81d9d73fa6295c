use Rattle.std.proofs.Common.{◌≡◌, [], map, take}
use Rattle.std.specs.List.{flat_map}
use Rattle.qd_bind.specs.Scoped.{scope}
use Rattle.qd_meaning.specs.Items.{item_of}
use Rattle.qd_meaning.specs.Refusals.{least, sooner}
use Rattle.qd_plan.specs.Listing.{item_faults}
use Rattle.qd_plan.specs.Showing.{Makes}
use Rattle.qd_plan.proofs.items.listed.Given as goal

-- the items so far
abbrev pub invariant-loop-item : goal.invariant-loop-item
invariant-loop-item l = record {
  parts : Makes l.buckets [] l.fn.made → Makes l.buckets (map (item_of (scope l.columns)) (take l.item-index l.items)) l.made;
  faults : l.faults.first ≡ sooner l.fn.faults.first (least (flat_map (item_faults (scope l.columns)) (take l.item-index l.items)));
}
