use Rattle.std.proofs.Common.{◌≡◌, map, take}
use Rattle.std.specs.List.{flat_map}
use Rattle.std.specs.Option.{option_copied}
use Rattle.qd_meaning.specs.Planned.{cols_in, column_in}
use Rattle.qd_meaning.specs.Refusals.{least, sooner}
use Rattle.qd_plan.specs.Joining.{key_faults}
use Rattle.qd_plan.proofs.tables.join_keys.Given as goal

-- the keys so far
abbrev pub invariant-loop-name : goal.invariant-loop-name
invariant-loop-name l = record {
  left : l.lefts ≡ map (column_in (cols_in (option_copied l.left.schema))) (take l.name-index l.names);
  right : l.rights ≡ map (column_in (cols_in (option_copied l.right.schema))) (take l.name-index l.names);
  faults : l.faults.first ≡ sooner l.fn.faults.first (least (flat_map (key_faults (option_copied l.left.schema) (option_copied l.right.schema)) (take l.name-index l.names)));
}
