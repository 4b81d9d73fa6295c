use Rattle.std.proofs.Common.{All}
use Rattle.qd_vectors.specs.Tables.{IsTableRow}
use Rattle.qd_vectors.proofs.merging.samples.rows.Given as goal

-- the rows so far are rows of the table
abbrev pub invariant-loop-time : goal.invariant-loop-time
invariant-loop-time l = All IsTableRow l.rows
