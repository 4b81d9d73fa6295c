use Rattle.std.proofs.Common.{◌≡◌, map, take}
use Rattle.std.specs.List.{flat_map}
use Rattle.qd_meaning.specs.Refusals.{least, sooner}
use Rattle.qd_plan.specs.Ordering.{order_key, key_faults}
use Rattle.qd_plan.proofs.order.order_by.Given as goal

-- the keys so far
abbrev pub invariant-loop-key : goal.invariant-loop-key
invariant-loop-key l = record {
  order : l.order ≡ map (order_key l.out) (take l.key-index l.keys);
  faults : l.faults.first ≡ sooner l.fn.faults.first (least (flat_map (key_faults l.out) (take l.key-index l.keys)));
}
