-- Worked examples: which refusal a query meets. Beside each stands its text, by which its offsets go.
use Rattle.std.specs.Prelude.{◌≡◌, ℕ, [], ◌∷◌, codes, Option, Some, None}
use Rattle.qd_base.specs.declared.code.Code.{Code}
use Rattle.qd_base.specs.declared.code.Code.TheVariants as code
use Rattle.qd_base.specs.declared.schema.Schema.{Schema}
use Rattle.qd_sql_ast.specs.declared.tree.AggOf.TheVariants as function
use Rattle.qd_sql_ast.specs.declared.tree.Cmp.TheVariants as compare
use Rattle.qd_sql_ast.specs.declared.tree.Query.{Query}
use Rattle.qd_sql_ast.specs.declared.tree.Shown.TheVariants as shown
use Rattle.qd_meaning.specs.declared.refusal.Refusal.{Refusal}
use Rattle.qd_meaning.specs.Refusals.{least}
use Rattle.qd_meaning.specs.Planned.{planned_over}
use Rattle.qd_meaning.specs.ExampleTables.{kinds, bids, trades}
use Rattle.qd_meaning.specs.ExampleTrees.{item, column_item, from_table, select, all_where, asof, value_only, comparison, named, qualified, number_tree, text_tree}

-- what is refused in a query over these tables, whatever their rows are
abbrev pub refusal_of : Option Schema → Option Schema → Query → Option Refusal
refusal_of left right q = least (planned_over 0 0 left right q).faults

abbrev pub refused : Code → ℕ → Option Refusal
refused why place = Some (record { code = why; place = place })

-- a table of the examples alone, and trades beside bids
abbrev pub alone : Query → Option Refusal
alone q = refusal_of (Some kinds.schema) None q

abbrev pub beside : Query → Option Refusal
beside q = refusal_of (Some trades.schema) (Some bids.schema) q

pub record QueriesAreRefused : Type 0 where
  -- SELECT x FROM z
  pub table : refusal_of None None (select (column_item 7 (codes "x") ∷ []) (from_table 14 (codes "z"))) ≡ refused code.UnknownTable 14
  -- SELECT V FROM t: names without regard to case
  pub nothing : alone (select (column_item 7 (codes "V") ∷ []) (from_table 14 (codes "t"))) ≡ None
  -- SELECT x FROM t
  pub column : alone (select (column_item 7 (codes "x") ∷ []) (from_table 14 (codes "t"))) ≡ refused code.UnknownColumn 7
  -- SELECT z.v FROM t
  pub qualifier : alone (select (item (shown.Expr (value_only (qualified 7 (codes "z") 9 (codes "v")))) ∷ []) (from_table 16 (codes "t"))) ≡ refused code.UnknownColumn 7
  -- SELECT sym FROM tr ASOF JOIN q
  pub both : beside (asof (from_table 16 (codes "tr")) 19 (from_table 29 (codes "q")) None (column_item 7 (codes "sym") ∷ [])) ≡ refused code.Ambiguous 7
  -- SELECT px, bid FROM tr ASOF JOIN q
  pub sides : beside (asof (from_table 20 (codes "tr")) 23 (from_table 33 (codes "q")) None (column_item 7 (codes "px") ∷ column_item 11 (codes "bid") ∷ [])) ≡ None
  -- SELECT sum(s) FROM t
  pub sum : alone (select (item (shown.Agg function.Sum 7 (value_only (named 11 (codes "s")))) ∷ []) (from_table 19 (codes "t"))) ≡ refused code.Types 7
  -- t WHERE v
  pub test : alone (all_where (from_table 0 (codes "t")) 2 (value_only (named 8 (codes "v")))) ≡ refused code.Types 2
  -- t WHERE ok = 1
  pub equal : alone (all_where (from_table 0 (codes "t")) 2 (comparison (named 8 (codes "ok")) compare.Equal 11 (number_tree 13 1))) ≡ refused code.Types 11
  -- t WHERE s < 'y'
  pub less : alone (all_where (from_table 0 (codes "t")) 2 (comparison (named 8 (codes "s")) compare.Less 10 (text_tree 12 (codes "y")))) ≡ refused code.Types 10
  -- t WHERE timestamp > '1970-13'
  pub month : alone (all_where (from_table 0 (codes "t")) 2 (comparison (named 8 (codes "timestamp")) compare.Greater 18 (text_tree 20 (codes "1970-13")))) ≡ refused code.TimeLiteral 20
  -- t WHERE timestamp > '1970-12'
  pub time : alone (all_where (from_table 0 (codes "t")) 2 (comparison (named 8 (codes "timestamp")) compare.Greater 18 (text_tree 20 (codes "1970-12")))) ≡ None
  -- t WHERE timestamp = 253402300800000000
  pub late : alone (all_where (from_table 0 (codes "t")) 2 (comparison (named 8 (codes "timestamp")) compare.Equal 18 (number_tree 20 253402300800000000))) ≡ refused code.TimeLiteral 20
