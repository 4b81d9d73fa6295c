-- The columns that an expression may name, and what a name of a statement stands for.
use Rattle.std.specs.Prelude.{ℕ, ◌+◌, Bool, ◌&&◌, if◌then◌else◌, List, [], ◌∷◌, map, Option, Some, None}
use Rattle.qd_base.specs.declared.code.Code.TheVariants as code
use Rattle.qd_base.specs.declared.schema.Col.{Col}
use Rattle.qd_base.specs.Schemas.{same_name}
use Rattle.qd_sql_ast.specs.declared.tree.Name.{Name}
use Rattle.qd_sql_ast.specs.declared.tree.Column.{Column}
use Rattle.qd_sql_ast.specs.declared.tree.Source.{Source}
use Rattle.qd_meaning.specs.declared.refusal.Refusal.{Refusal}
use Rattle.qd_meaning.specs.Refusals.{at}

-- a column, and the name that its table has in the statement
pub record ScopeColumn : Type 0 where
  pub source : List ℕ
  pub col : Col

abbrev pub Scope : Type 0
Scope = List ScopeColumn

abbrev pub name_or : Option Name → Name → Name
name_or None other = other
name_or (Some name) other = name

-- a table is called by its alias, or by its own name where it has none
abbrev pub called : Source → Name
called s = name_or s.alias s.table

abbrev pub scope_column : List ℕ → Col → ScopeColumn
scope_column source col = record { source = source; col = col }

abbrev pub scope_of : Source → List Col → Scope
scope_of s cols = map (scope_column (called s).text) cols

-- whether a name, with a table's name in front of it or without, is that of a column
abbrev pub is_named : Name → Option Name → ScopeColumn → Bool
is_named first None c = same_name c.col.name first.text
is_named first (Some second) c = same_name c.source first.text && same_name c.col.name second.text

-- the columns that pass a test, each with its position
abbrev pub found_from : (ScopeColumn → Bool) → ℕ → Scope → List (ℕ × Col)
found_from test n [] = []
found_from test n (c ∷ cs) = if test c then (n, c.col) ∷ found_from test (n + 1) cs else found_from test (n + 1) cs

abbrev pub found : Scope → Column → List (ℕ × Col)
found scope c = found_from (is_named c.first c.second) 0 scope

-- What a name stands for: a column, the first where several have the name, and the refusals on the way. An unqualified name
-- that stands in both sides of a join is ambiguous.
pub record Resolved : Type 0 where
  pub column : Option (ℕ × Col)
  pub faults : List Refusal

abbrev pub unqualified : Name → Option Name → List Refusal
unqualified first None = at code.Ambiguous first.at
unqualified first (Some second) = []

abbrev pub resolved_to : Column → List (ℕ × Col) → Resolved
resolved_to c [] = record { column = None; faults = at code.UnknownColumn c.first.at }
resolved_to c (x ∷ []) = record { column = Some x; faults = [] }
resolved_to c (x ∷ y ∷ rest) = record { column = Some x; faults = unqualified c.first c.second }

abbrev pub resolved : Scope → Column → Resolved
resolved scope c = resolved_to c (found scope c)
