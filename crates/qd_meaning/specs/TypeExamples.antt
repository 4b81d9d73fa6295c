-- Worked examples: where types and clauses are refused. Beside each stands its text, by which its offsets go.
use Rattle.std.specs.Prelude.{◌≡◌, ℕ, false, List, [], ◌∷◌, codes, Option, Some, None}
use Rattle.qd_base.specs.declared.code.Code.TheVariants as code
use Rattle.qd_base.specs.declared.unit.TimeUnit.TheVariants as unit
use Rattle.qd_sql_ast.specs.declared.tree.AggOf.{AggOf}
use Rattle.qd_sql_ast.specs.declared.tree.AggOf.TheVariants as function
use Rattle.qd_sql_ast.specs.declared.tree.AlignTo.{AlignTo}
use Rattle.qd_sql_ast.specs.declared.tree.AlignTo.TheVariants as align
use Rattle.qd_sql_ast.specs.declared.tree.Cmp.TheVariants as compare
use Rattle.qd_sql_ast.specs.declared.tree.Expr.{Expr}
use Rattle.qd_sql_ast.specs.declared.tree.FillWith.{FillWith}
use Rattle.qd_sql_ast.specs.declared.tree.FillWith.TheVariants as fill
use Rattle.qd_sql_ast.specs.declared.tree.Lit.TheVariants as lit
use Rattle.qd_sql_ast.specs.declared.tree.Query.{Query}
use Rattle.qd_sql_ast.specs.declared.tree.Sampled.{Sampled}
use Rattle.qd_sql_ast.specs.declared.tree.Shown.TheVariants as shown
use Rattle.qd_meaning.specs.WriteExamples.{name, number, quoted}
use Rattle.qd_meaning.specs.QueryExamples.{alone, beside, refused}
use Rattle.qd_meaning.specs.ExampleTrees.{item, column_item, from_table, select, all_where, asof, value_only, named, number_tree, sum, against_minus, in_list, in_text, both, opposite}

-- t WHERE ..
abbrev pub t_where : Expr → Query
t_where e = all_where (from_table 0 (codes "t")) 2 e

pub record TypesAreRefused : Type 0 where
  -- SELECT v + s FROM t
  pub plus : alone (select (item (shown.Expr (sum (named 7 (codes "v")) 9 (named 11 (codes "s")))) ∷ []) (from_table 18 (codes "t"))) ≡ refused code.Types 9
  -- t WHERE timestamp > -5: out of range at the sign; with two signs it is arithmetic
  pub signed : alone (t_where (against_minus (named 8 (codes "timestamp")) compare.Greater 18 (20 ∷ []) (number_tree 21 5))) ≡ refused code.TimeLiteral 20
  pub twice_signed : alone (t_where (against_minus (named 8 (codes "timestamp")) compare.Greater 18 (20 ∷ 22 ∷ []) (number_tree 23 5))) ≡ refused code.Types 18
  -- t WHERE v IN (1, 'a')
  pub among : alone (t_where (in_list (named 8 (codes "v")) 10 (number 14 1 ∷ quoted 17 (codes "a") ∷ []))) ≡ refused code.Types 10
  -- t WHERE v IN (1, NULL)
  pub among_null : alone (t_where (in_list (named 8 (codes "v")) 10 (number 14 1 ∷ lit.Null 17 ∷ []))) ≡ None
  -- t WHERE v IN '1970'
  pub within : alone (t_where (in_text (named 8 (codes "v")) 10 13 (codes "1970"))) ≡ refused code.Types 10
  -- t WHERE timestamp IN '1970;1x'
  pub interval : alone (t_where (in_text (named 8 (codes "timestamp")) 18 21 (codes "1970;1x"))) ≡ refused code.TimeLiteral 21
  -- t WHERE timestamp IN '1970;1d'
  pub interval_later : alone (t_where (in_text (named 8 (codes "timestamp")) 18 21 (codes "1970;1d"))) ≡ None
  -- t WHERE ok AND v
  pub conjunction : alone (t_where (both (named 8 (codes "ok")) 11 (named 15 (codes "v")))) ≡ refused code.Types 11
  -- t WHERE NOT s
  pub negation : alone (t_where (opposite 8 (named 12 (codes "s")))) ≡ refused code.Types 8
  -- SELECT v + s, x FROM t: names before types
  pub names_first : alone (select (item (shown.Expr (sum (named 7 (codes "v")) 9 (named 11 (codes "s")))) ∷ column_item 14 (codes "x") ∷ []) (from_table 21 (codes "t"))) ≡ refused code.UnknownColumn 14

-- an hourly sample of an aggregate of a column of t: SELECT f(..) FROM t SAMPLE BY 1h ..
abbrev pub sampled : List FillWith → Option AlignTo → Sampled
sampled fills align = record { at = 19; stride = record { at = 29; count = 1; unit = unit.Hour }; fills = Some (record { at = 32; fills = fills }); align = align }

abbrev pub hourly : AggOf → List ℕ → Sampled → Query
hourly of_what col s = record (select (item (shown.Agg of_what 7 (value_only (named 11 col))) ∷ []) (from_table 19 (codes "t"))) { sampled = Some s }

pub record ClausesAreRefused : Type 0 where
  -- l LATEST ON v PARTITION BY s, over the columns of t
  pub latest :
      alone
      (record (select (column_item 7 (codes "v") ∷ []) (from_table 14 (codes "t"))) {
        latest = Some (record { at = 16; on = record { first = name 26 (codes "v"); second = None }; keys = record { first = name 41 (codes "s"); second = None } ∷ [] });
      })
      ≡ refused code.Keys 26
  -- SELECT v FROM t SAMPLE BY 1h FILL(NULL)
  pub no_aggregate : alone (record (select (column_item 7 (codes "v") ∷ []) (from_table 14 (codes "t"))) { sampled = Some (sampled (fill.Null 37 ∷ []) None) }) ≡ refused code.Keys 19
  pub two_fills : alone (hourly function.Sum (codes "v") (sampled (fill.Null 37 ∷ fill.Prev 43 ∷ []) None)) ≡ refused code.Types 32
  pub number_for_text : alone (hourly function.Last (codes "s") (sampled (fill.Minus 37 (record { at = 38; value = 1 }) ∷ []) None)) ≡ refused code.Types 37
  pub number_for_sum : alone (hourly function.Sum (codes "v") (sampled (fill.Minus 37 (record { at = 38; value = 1 }) ∷ []) None)) ≡ None
  -- ALIGN TO CALENDAR WITH OFFSET '24:00', and '-23:59'
  pub offset : alone (hourly function.Sum (codes "v") (sampled (fill.Prev 37 ∷ []) (Some (align.Calendar (Some (record { at = 72; text = codes "24:00" })))))) ≡ refused code.Types 72
  pub offset_back : alone (hourly function.Sum (codes "v") (sampled (fill.Prev 37 ∷ []) (Some (align.Calendar (Some (record { at = 72; text = codes "-23:59" })))))) ≡ None
  -- SELECT px FROM tr ASOF JOIN q ON (px)
  pub join_key : beside (asof (from_table 15 (codes "tr")) 18 (from_table 28 (codes "q")) (Some (name 34 (codes "px") ∷ [])) (column_item 7 (codes "px") ∷ [])) ≡ refused code.UnknownColumn 34
  -- SELECT px FROM tr ASOF JOIN q tr
  pub one_name :
      beside (asof (from_table 15 (codes "tr")) 18 (record { table = name 28 (codes "q"); alias = Some (name 30 (codes "TR")) }) None (column_item 7 (codes "px") ∷ [])) ≡ refused code.Ambiguous 30
  -- SELECT v FROM t ORDER BY s
  pub order : alone (record (select (column_item 7 (codes "v") ∷ []) (from_table 14 (codes "t"))) { order = Some (record { name = name 25 (codes "s"); is_descending = false } ∷ []) }) ≡ refused code.UnknownColumn 25
