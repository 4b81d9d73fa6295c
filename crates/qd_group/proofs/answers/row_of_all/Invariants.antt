use Rattle.std.proofs.Common.{◌≡◌, take}
use Rattle.qd_rows.specs.Sets.{rows_in}
use Rattle.qd_meaning.specs.Grouped.{aggregates}
use Rattle.qd_group.proofs.answers.row_of_all.Given as goal

-- what the aggregates so far make of the rows
abbrev pub invariant-loop-agg : goal.invariant-loop-agg
invariant-loop-agg g l = l.row ≡ aggregates (take l.agg-index l.aggs) (rows_in l.rows)
