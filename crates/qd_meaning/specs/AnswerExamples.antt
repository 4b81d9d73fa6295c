-- Worked examples: the parts of some queries, and the tables that they give. Beside each query stands its text.
use Rattle.std.specs.Prelude.{◌≡◌, ℕ, false, true, List, [], ◌∷◌, codes, pos, Option, Some, None}
use Rattle.qd_base.specs.declared.cell.Cell.TheVariants as cell
use Rattle.qd_base.specs.declared.schema.ColType.TheVariants as kind
use Rattle.qd_base.specs.declared.schema.Col.{Col}
use Rattle.qd_base.specs.declared.schema.Schema.{Schema}
use Rattle.qd_base.specs.declared.request.Table.{Table}
use Rattle.qd_base.specs.declared.unit.TimeUnit.TheVariants as unit
use Rattle.qd_base.specs.Rows.{Row}
use Rattle.qd_base.specs.Database.{StoredTable}
use Rattle.qd_sql_ast.specs.declared.tree.AggOf.TheVariants as function
use Rattle.qd_sql_ast.specs.declared.tree.Limit.TheVariants as limit
use Rattle.qd_sql_ast.specs.declared.tree.Query.{Query}
use Rattle.qd_sql_ast.specs.declared.tree.Shown.TheVariants as shown
use Rattle.qd_value.specs.declared.bound.Bound.TheVariants as bound
use Rattle.qd_value.specs.declared.bound.Comparison.TheVariants as asks
use Rattle.qd_meaning.specs.declared.parts.Agg.TheVariants as agg
use Rattle.qd_meaning.specs.declared.parts.AskPlan.{AskPlan}
use Rattle.qd_meaning.specs.declared.parts.Cut.TheVariants as cut
use Rattle.qd_meaning.specs.declared.parts.Fill.TheVariants as fill
use Rattle.qd_meaning.specs.declared.parts.Work.{Work}
use Rattle.qd_meaning.specs.declared.parts.Work.TheVariants as work
use Rattle.qd_meaning.specs.Planned.{planned_over}
use Rattle.qd_meaning.specs.Answer.{query_table}
use Rattle.qd_meaning.specs.WriteExamples.{name}
use Rattle.qd_meaning.specs.ExampleTables.{column, schema, table, long, second, text, kinds, readings, bids, trades}
use Rattle.qd_meaning.specs.ExampleTrees.{item, column_item, from_table, select, asof, value_only, named}

-- ---- plans

abbrev pub plan_of : Work → List ℕ → List Col → AskPlan
plan_of w picks out = record { left = 0; join = None; keep = None; latest = None; work = w; picks = picks; out = out; order = []; limit = None; at = 0 }

-- v, then ok
abbrev pub two_columns : AskPlan
two_columns = plan_of (work.Plain (bound.Column 0 ∷ bound.Column 3 ∷ [])) (0 ∷ 1 ∷ []) (column (codes "v") kind.Long ∷ column (codes "ok") kind.Bool ∷ [])

-- the rows with v above 1
abbrev pub above_one : AskPlan
above_one = record (plan_of (work.Plain (bound.Column 1 ∷ [])) (0 ∷ []) (column (codes "v") kind.Long ∷ [])) {
  keep = Some (bound.Compare asks.Greater (bound.Column 1) (bound.Literal (long 1)));
}

-- for each k its count and the sum of v
abbrev pub by_key : AskPlan
by_key =
    plan_of (work.Group (record { keys = bound.Column 0 ∷ []; aggs = agg.Count ∷ agg.Sum (bound.Column 1) ∷ [] })) (1 ∷ 0 ∷ 2 ∷ [])
    (column (codes "count") kind.Long ∷ column (codes "k") kind.Symbol ∷ column (codes "sum") kind.Long ∷ [])

-- the count and the sum of v
abbrev pub whole : AskPlan
whole =
    plan_of (work.Group (record { keys = []; aggs = agg.Count ∷ agg.Sum (bound.Column 1) ∷ [] })) (0 ∷ 1 ∷ []) (column (codes "count") kind.Long ∷ column (codes "sum") kind.Long ∷ [])

-- the two greatest v
abbrev pub greatest_two : AskPlan
greatest_two = record (plan_of (work.Plain (bound.Column 1 ∷ [])) (0 ∷ []) (column (codes "v") kind.Long ∷ [])) { order = (0, true) ∷ []; limit = Some (cut.First 2) }

-- each price with the bid of its symbol at its time
abbrev pub priced : AskPlan
priced = record (plan_of (work.Plain (bound.Column 1 ∷ bound.Column 4 ∷ [])) (0 ∷ 1 ∷ []) (column (codes "px") kind.Long ∷ column (codes "bid") kind.Long ∷ [])) {
  join = Some (0, record { left = 0 ∷ []; right = 0 ∷ []; strict = false });
}

-- the sum of v by the hour, with the one before where there is none
abbrev pub hourly : AskPlan
hourly =
    plan_of
    (work.Sample (record { group = record { keys = []; aggs = agg.Sum (bound.Column 0) ∷ [] }; stride = record { n = 1; unit = unit.Hour }; offset = Some (pos 0); fills = fill.Prev ∷ [] }))
    (0 ∷ 1 ∷ []) (column (codes "timestamp") kind.Time ∷ column (codes "sum") kind.Long ∷ [])

-- what the parts of a query are, over its tables' schemas
abbrev pub parts : Option Schema → Option Schema → Query → AskPlan
parts left right q = (planned_over 0 0 left right q).plan

pub record QueriesArePlanned : Type 0 where
  -- SELECT v, ok FROM t
  pub plain : parts (Some kinds.schema) None (select (column_item 7 (codes "v") ∷ column_item 10 (codes "OK") ∷ []) (from_table 18 (codes "t"))) ≡ two_columns
  -- SELECT count(), k, sum(v) FROM l
  pub groups :
      parts (Some readings.schema) None
      (select (item (shown.Count 7) ∷ column_item 16 (codes "k") ∷ item (shown.Agg function.Sum 19 (value_only (named 23 (codes "v")))) ∷ []) (from_table 31 (codes "l")))
      ≡ by_key
  -- SELECT v FROM l ORDER BY V DESC LIMIT 2
  pub greatest :
      parts (Some readings.schema) None
      (record (select (column_item 7 (codes "v") ∷ []) (from_table 14 (codes "l"))) {
        order = Some (record { name = name 25 (codes "V"); is_descending = true } ∷ []);
        limit = Some (limit.First (record { at = 38; value = 2 }));
      })
      ≡ greatest_two
  -- SELECT px, bid FROM tr ASOF JOIN q ON (sym)
  pub joined :
      parts (Some trades.schema) (Some bids.schema)
      (asof (from_table 20 (codes "tr")) 23 (from_table 33 (codes "q")) (Some (name 39 (codes "sym") ∷ [])) (column_item 7 (codes "px") ∷ column_item 11 (codes "bid") ∷ []))
      ≡ priced

-- ---- tables

abbrev pub shows : List Col → List Row → Table
shows cols rows = record { cols = cols; rows = rows }

-- 5 at ten minutes past midnight, and 7 at twenty past two
abbrev pub hours : StoredTable
hours = table (schema (codes "t") (column (codes "v") kind.Long ∷ column (codes "timestamp") kind.Time ∷ []) 1) ((long 5 ∷ second 600 ∷ []) ∷ (long 7 ∷ second 8400 ∷ []) ∷ [])

abbrev pub nothing : StoredTable
nothing = table readings.schema []

pub record PlansGiveTables : Type 0 where
  pub plain : query_table (Some kinds) None two_columns ≡ shows two_columns.out ((long 1 ∷ cell.Bool false ∷ []) ∷ (long 2 ∷ cell.Bool true ∷ []) ∷ [])
  pub filtered : query_table (Some readings) None above_one ≡ shows above_one.out ((long 3 ∷ []) ∷ (long 2 ∷ []) ∷ [])
  -- groups in order of first appearance
  pub groups : query_table (Some readings) None by_key ≡ shows by_key.out ((long 1 ∷ text (codes "b") ∷ long 3 ∷ []) ∷ (long 2 ∷ text (codes "a") ∷ long 3 ∷ []) ∷ [])
  -- one row over no rows, and NULL for the sum of none
  pub no_rows : query_table (Some nothing) None whole ≡ shows whole.out ((long 0 ∷ cell.Null ∷ []) ∷ [])
  pub no_group : query_table (Some nothing) None by_key ≡ shows by_key.out []
  pub greatest : query_table (Some readings) None greatest_two ≡ shows greatest_two.out ((long 3 ∷ []) ∷ (long 2 ∷ []) ∷ [])
  -- a trade before the first bid, and one of another symbol, have none
  pub joined : query_table (Some trades) (Some bids) priced ≡ shows priced.out ((long 2 ∷ cell.Null ∷ []) ∷ (long 1 ∷ long 100 ∷ []) ∷ (long 3 ∷ cell.Null ∷ []) ∷ [])
  pub sampled : query_table (Some hours) None hourly ≡ shows hourly.out ((second 0 ∷ long 5 ∷ []) ∷ (second 3600 ∷ long 5 ∷ []) ∷ (second 7200 ∷ long 7 ∷ []) ∷ [])
