use Rattle.std.proofs.Common.{◌≡◌, length, map, take}
use Rattle.qd_rows.specs.Sets.{rows_in}
use Rattle.qd_value.specs.Scalars.{cell_of}
use Rattle.qd_group.specs.Grouping.{answers_of}
use Rattle.qd_group.proofs.answers.columns_of.Given as goal

-- what the aggregates so far make of each group's rows
abbrev pub invariant-loop-agg : goal.invariant-loop-agg
invariant-loop-agg g l = map (λ c. map cell_of c.items) l.columns.items ≡ map (answers_of l.groups.numbers.items (length l.groups.firsts.items) (rows_in l.rows)) (take l.agg-index l.aggs)
