use Rattle.std.proofs.Common.{◌≡◌, None, take}
use Rattle.qd_meaning.specs.Inserting.{targets_of}
use Rattle.qd_writes.proofs.insert.all_targets.Given as goal

-- the columns so far
abbrev pub invariant-loop-place : goal.invariant-loop-place
invariant-loop-place l = l.made.items ≡ take l.place (targets_of l.cols None)
