use Rattle.std.proofs.Common.{◌≡◌, map, take}
use Rattle.std.specs.List.{flat_map}
use Rattle.qd_bind.specs.Scoped.{scope}
use Rattle.qd_meaning.specs.Refusals.{least, sooner}
use Rattle.qd_plan.specs.Shaping.{key_faults, key_of}
use Rattle.qd_plan.proofs.clauses.latest_keys.Given as goal

-- the keys so far
abbrev pub invariant-loop-name : goal.invariant-loop-name
invariant-loop-name l = record {
  keys : l.keys ≡ map (key_of (scope l.columns)) (take l.name-index l.names);
  faults : l.faults.first ≡ sooner l.fn.faults.first (least (flat_map (key_faults (scope l.columns)) (take l.name-index l.names)));
}
