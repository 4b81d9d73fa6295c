use Rattle.std.proofs.Common.{◌≡◌, map, take}
use Rattle.qd_meaning.specs.Inserting.{target_of}
use Rattle.qd_writes.proofs.insert.named_targets.Given as goal

-- the columns so far
abbrev pub invariant-loop-name : goal.invariant-loop-name
invariant-loop-name l = l.made.items ≡ map (target_of l.schema.cols) (take l.name-index l.names)
