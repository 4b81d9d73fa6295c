use Rattle.std.proofs.Common.{take}
use Rattle.qd_rows.specs.Sets.{rows_in}
use Rattle.qd_query.proofs.Splits.{Splits}
use Rattle.qd_query.proofs.partitions.partitions_of.Given as goal

-- the rows so far are those of the partitions
abbrev pub invariant-loop-i : goal.invariant-loop-i
invariant-loop-i g l = Splits l.schema.unit l.schema.time_col l.found.items (take l.i (rows_in l.rows))
