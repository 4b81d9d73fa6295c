use Rattle.std.proofs.Common.{◌≡◌, map, take}
use Rattle.qd_query.specs.Counted.{shown_row}
use Rattle.qd_query.proofs.partitions.partition_rows.Given as goal

-- the rows so far
abbrev pub invariant-loop-partition : goal.invariant-loop-partition
invariant-loop-partition l = l.list ≡ map (shown_row l.unit) (take l.partition-index l.partitions)
