-- Which parts of tables a statement that asks needs.
use Rattle.std.specs.Prelude.{◌≡◌, ℕ, ◌<◌, ◌≤◌, nat_lt, ◌⊎◌, Bool, true, false, List, [], ◌∷◌, Option, Some, None, length}
use Rattle.qd_base.specs.declared.part.Part.{Part}
use Rattle.qd_base.specs.Schemas.{table_at}
use Rattle.qd_sql_ast.specs.declared.tree.Stmt.{Stmt}
use Rattle.qd_sql_ast.specs.declared.tree.Stmt.TheVariants as is
use Rattle.qd_value.specs.declared.bound.Bound.{Bound}
use Rattle.qd_meaning.specs.declared.parts.AskPlan.{AskPlan}
use Rattle.qd_meaning.specs.declared.parts.JoinSpec.{JoinSpec}
use Rattle.qd_meaning.specs.Planned as parts
use Rattle.qd_scan.specs.Asked.{PartAt}
use Rattle.qd_scan.specs.Sources.{SourceView, part_at, parts_at, schema_at}
use Rattle.qd_query.specs.Times.{IsByTheEnd, IsWithin}

-- a part of a table
abbrev pub IsPartOf : SourceView → (table : ℕ) → PartAt → Type 0
IsPartOf s table a = (a.table ≡ table) × (a.i < length (parts_at s table))

-- a part of a table that has a moment of some
abbrev pub IsPartWith : (Has : ℕ → Type 0) → SourceView → (table : ℕ) → PartAt → Type 0
IsPartWith Has s table a = IsPartOf s table a × (t : ℕ) × Has t × ((part_at s table a.i).lo ≤ t) × (t ≤ (part_at s table a.i).hi)

-- whether the first part of a table begins behind moment 0
abbrev pub begins_late : List Part → Bool
begins_late [] = false
begins_late (p ∷ ps) = nat_lt 0 p.lo

-- The times of which a join needs left rows: those of WHERE's interval. Where the table has a row of moment 0, all up to the
-- interval's end: no law says of that row, before its part is given, that it has a cell for its time.
abbrev pub IsLeftTime : List Part → (col : ℕ) → Option Bound → (t : ℕ) → Type 0
IsLeftTime lefts col keep t = IsByTheEnd col keep t × (begins_late lefts ≡ true → IsWithin col keep t)

-- A query of one table needs the parts of it that WHERE's interval meets. A join needs those of the left table; and of the
-- right one each that begins by the interval's end, since a left row may take any earlier right one.
abbrev pub TablesNeed : SourceView → (left : ℕ) → Option (ℕ × JoinSpec) → Option Bound → PartAt → Type 0
TablesNeed s left None keep a = IsPartWith (IsWithin (schema_at s left).time_col keep) s left a
TablesNeed s left (Some j) keep a =
    IsPartWith (IsLeftTime (parts_at s left) (schema_at s left).time_col keep) s left a ⊎ IsPartWith (IsByTheEnd (schema_at s left).time_col keep) s j.0 a

abbrev pub PlanNeeds : SourceView → AskPlan → PartAt → Type 0
PlanNeeds s p a = TablesNeed s p.left p.join p.keep a

-- SHOW PARTITIONS needs all parts of its table
abbrev pub ShowNeeds : SourceView → Option ℕ → PartAt → Type 0
ShowNeeds s None a = ⊥
ShowNeeds s (Some table) a = IsPartOf s table a

-- a query that is refused needs none, but where the rows alone show that it is
abbrev pub QueryNeeds : SourceView → parts.Planned → PartAt → Type 0
QueryNeeds s p a = (p.faults ≡ []) × PlanNeeds s p.plan a

abbrev pub Needs : SourceView → Stmt → PartAt → Type 0
Needs s (is.Query q) a = QueryNeeds s (parts.planned s.schemas q) a
Needs s (is.Show name place) a = ShowNeeds s (table_at s.schemas name) a
Needs s (is.Create c) a = ⊥
Needs s (is.Insert i) a = ⊥
Needs s (is.Alter b) a = ⊥
