-- The parts that scans ask for are those that a statement needs.
use Rattle.std.proofs.Common.{◌≡◌, ℕ, ◌<◌, ◌≤◌, inl, inr, true, List, [], Option, Some, None, Ok, length, get_or, sym, arith, subst}
use Rattle.qd_base.specs.declared.limits.TheConstants.{MAX_TIME}
use Rattle.qd_base.specs.declared.part.Part.{Part}
use Rattle.qd_sql_ast.specs.declared.tree.Stmt.{Stmt}
use Rattle.qd_sql_ast.specs.declared.tree.Stmt.TheVariants as is
use Rattle.qd_value.specs.declared.bound.Bound.{Bound}
use Rattle.qd_meaning.specs.declared.parts.AskPlan.{AskPlan}
use Rattle.qd_meaning.specs.declared.parts.JoinSpec.{JoinSpec}
use Rattle.qd_manifest.specs.Spelling.{no_part}
use Rattle.qd_plan.specs.declared.asked.Plan.TheVariants as plan
use Rattle.qd_plan.specs.Plans.{Planned}
use Rattle.qd_sql_ast.specs.Kinds.{IsQuestion as Asks}
use Rattle.qd_scan.specs.Asked.{AskedOnly, IsPartBetween, Overlaps, PartAt}
use Rattle.qd_scan.specs.Sources.{SourceView, parts_at, schema_at, Stays}
use Rattle.qd_scan.proofs.AskedLemmas.{asked_then, asked_wider}
use Rattle.qd_query.specs.Needs.{begins_late, IsLeftTime, IsPartWith, Needs, PlanNeeds, ShowNeeds, TablesNeed}
use Rattle.qd_query.specs.Times.{AreAllowed, IsByTheEnd, IsFrom, IsTo, IsWithin, WhereAllows}

-- a call leaves the parts as they are
same_parts : (s t : SourceView) (table lo hi : ℕ) (a : PartAt) → t.parts ≡ s.parts → IsPartBetween t table lo hi a → IsPartBetween s table lo hi a
same_parts s t table lo hi a same h = record {
  of_table = h.of_table;
  there = subst (λ (ps : List (List Part)). a.i < length (get_or ps table [])) same h.there;
  overlaps = subst (λ (ps : List (List Part)). Overlaps lo hi (get_or (get_or ps table []) a.i no_part)) same h.overlaps;
}

-- a part between two moments has one of those between
has_one : (Has : ℕ → Type 0) (s : SourceView) (table lo hi : ℕ) (a : PartAt) → ((t : ℕ) → lo ≤ t → t ≤ hi → Has t) → IsPartBetween s table lo hi a → IsPartWith Has s table a
has_one Has s table lo hi a all h = ((h.of_table, h.there), h.overlaps.0, all h.overlaps.0 h.overlaps.1 h.overlaps.2, h.overlaps.3, h.overlaps.4)

-- what WHERE allows to a column, where its position is found in the schema
module _ (s : SourceView) (table col : ℕ) (keep : Option Bound) (lo hi : ℕ) (same : col ≡ (schema_at s table).time_col) (all : AreAllowed (WhereAllows IsFrom col keep) (WhereAllows IsTo col keep) lo hi)
    (timely : hi ≤ MAX_TIME) where
  allowed : AreAllowed (WhereAllows IsFrom (schema_at s table).time_col keep) (WhereAllows IsTo (schema_at s table).time_col keep) lo hi
  allowed = subst (λ (c : ℕ). AreAllowed (WhereAllows IsFrom c keep) (WhereAllows IsTo c keep) lo hi) same all

  by_the_end : (t : ℕ) → t ≤ hi → IsByTheEnd (schema_at s table).time_col keep t
  by_the_end t high = (allowed.high t high, omega (arith, timely, high))

  within : (t : ℕ) → lo ≤ t → t ≤ hi → IsWithin (schema_at s table).time_col keep t
  within t low high = let most : t ≤ MAX_TIME = omega (arith, timely, high) in (allowed.low t most low, allowed.high t high, most)

  -- the parts of one table
  pub table_needed : (a b : Option (List PartAt)) → AskedOnly (IsPartBetween s table lo hi) a b → AskedOnly (TablesNeed s table None keep) a b
  table_needed a b h = asked_wider (IsPartBetween s table lo hi) (TablesNeed s table None keep) a b (λ x one. has_one (IsWithin (schema_at s table).time_col keep) s table lo hi x within one) h

  -- those of a left one
  left_time : (from : ℕ) → (begins_late (parts_at s table) ≡ true → from ≡ lo) → (t : ℕ) → from ≤ t → t ≤ hi → IsLeftTime (parts_at s table) (schema_at s table).time_col keep t
  left_time from starts t low high = (by_the_end t high, λ late. within t (let same = starts late in omega (arith, same, low)) high)

  pub left_needed : (right from : ℕ) (spec : JoinSpec) (lent : List Part) (a b : Option (List PartAt)) → lent ≡ parts_at s table → (begins_late lent ≡ true → from ≡ lo)
      → AskedOnly (IsPartBetween s table from hi) a b → AskedOnly (TablesNeed s table (Some (right, spec)) keep) a b
  left_needed right from spec lent a b is starts h =
      asked_wider (IsPartBetween s table from hi) (TablesNeed s table (Some (right, spec)) keep) a b
      (λ x one. inl (has_one (IsLeftTime (parts_at s table) (schema_at s table).time_col keep) s table from hi x (left_time from (subst (λ (ps : List Part). begins_late ps ≡ true → from ≡ lo) is starts)) one)) h

  -- and those of a right one behind them
  pub both_needed : (between : SourceView) (right : ℕ) (spec : JoinSpec) (a b c : Option (List PartAt)) → Stays s between → AskedOnly (TablesNeed s table (Some (right, spec)) keep) a b
      → AskedOnly (IsPartBetween between right 0 hi) b c → AskedOnly (TablesNeed s table (Some (right, spec)) keep) a c
  both_needed between right spec a b c stays one two =
      asked_then (TablesNeed s table (Some (right, spec)) keep) a b c one
      (asked_wider (IsPartBetween between right 0 hi) (TablesNeed s table (Some (right, spec)) keep) b c
      (λ x more. inr (has_one (IsByTheEnd (schema_at s table).time_col keep) s right 0 hi x (λ t low high. by_the_end t high) (same_parts s between right 0 hi x stays.parts more))) two)

-- ---- the plan of a statement

pub plan_needed : (s : SourceView) (stmt : Stmt) (made : AskPlan) (a b : Option (List PartAt)) → Asks stmt → Planned s.schemas stmt (Ok (plan.Ask made)) → AskedOnly (PlanNeeds s made) a b → AskedOnly (Needs s stmt) a b
plan_needed s (is.Query q) made a b asks h asked = asked_wider (PlanNeeds s made) (Needs s (is.Query q)) a b (λ x one. (h.0, subst (λ (p : AskPlan). PlanNeeds s p x) h.1 one)) asked
plan_needed s (is.Show name place) made a b asks h asked = absurd h
plan_needed s (is.Create c) made a b asks h asked = absurd asks
plan_needed s (is.Insert i) made a b asks h asked = absurd asks
plan_needed s (is.Alter x) made a b asks h asked = absurd asks

pub show_needed : (s : SourceView) (stmt : Stmt) (table : ℕ) (a b : Option (List PartAt)) → Asks stmt → Planned s.schemas stmt (Ok (plan.Show table)) → AskedOnly (IsPartBetween s table 0 MAX_TIME) a b → AskedOnly (Needs s stmt) a b
show_needed s (is.Query q) table a b asks h asked = absurd h
show_needed s (is.Show name place) table a b asks h asked =
    asked_wider (IsPartBetween s table 0 MAX_TIME) (Needs s (is.Show name place)) a b (λ x one. subst (λ (o : Option ℕ). ShowNeeds s o x) (sym h) (one.of_table, one.there)) asked
show_needed s (is.Create c) table a b asks h asked = absurd asks
show_needed s (is.Insert i) table a b asks h asked = absurd asks
show_needed s (is.Alter x) table a b asks h asked = absurd asks
