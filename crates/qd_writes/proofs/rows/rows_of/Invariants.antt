use Rattle.std.proofs.Common.{◌≡◌, map, take, All}
use Rattle.std.specs.List.{flat_map}
use Rattle.qd_meaning.specs.Refusals.{least}
use Rattle.qd_meaning.specs.Inserting.{row_of, targets_of, tuple_faults}
use Rattle.qd_writes.specs.Literals.{IsFit}
use Rattle.qd_writes.proofs.rows.rows_of.Given as goal

-- the rows so far
abbrev pub invariant-loop-tuple : goal.invariant-loop-tuple
invariant-loop-tuple l = record {
  rows : l.rows ≡ map (row_of l.schema.cols (targets_of l.schema.cols l.insert.columns)) (take l.tuple-index l.tuples);
  fit : All (All IsFit) l.rows;
  found : l.found ≡ least (flat_map (tuple_faults l.schema.time_col (targets_of l.schema.cols l.insert.columns)) (take l.tuple-index l.tuples));
}
