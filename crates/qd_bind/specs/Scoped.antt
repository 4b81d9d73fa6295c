-- The columns that an expression may name, as a side of a query holds them.
use Rattle.std.specs.Prelude.{ℕ, ◌+◌, Bool, true, false, not, if◌then◌else◌, List, [], ◌∷◌, ◌++◌, map, Option, Some, None}
use Rattle.std.specs.Borrow.{Bor}
use Rattle.qd_base.specs.declared.schema.Col.{Col}
use Rattle.qd_base.specs.Schemas.{same_name}
use Rattle.qd_base.specs.declared.code.Code.TheVariants as code
use Rattle.qd_sql_ast.specs.declared.tree.Name.{Name}
use Rattle.qd_sql_ast.specs.declared.tree.Column.{Column}
use Rattle.qd_meaning.specs.declared.refusal.Refusal.{Refusal}
use Rattle.qd_meaning.specs.Refusals.{least, unless}
use Rattle.qd_meaning.specs.Typing.{literal, constant_null, plain_column}
use Rattle.qd_meaning.specs.Scopes as scopes
use Rattle.qd_meaning.specs.Scopes.{scope_column}
use Rattle.qd_bind.specs.declared.typed.Typed.{Typed}
use Rattle.qd_bind.specs.Seen.{typed}
use Rattle.qd_bind.specs.declared.scope.Hit.{Hit}
use Rattle.qd_bind.specs.declared.side.Side.{Side}
use Rattle.qd_bind.specs.Apart.{cols_by}
use Rattle.qd_bind.specs.declared.scope.Scope.{Scope}

abbrev pub columns : Side → List Col
columns s = cols_by s.schema

abbrev pub side : Side → scopes.Scope
side s = map (scope_column s.name.now) (columns s)

abbrev pub side_or_none : Option Side → scopes.Scope
side_or_none None = []
side_or_none (Some s) = side s

abbrev pub scope : Scope → scopes.Scope
scope s = side s.left ++ side_or_none s.right

-- ---- the columns of a name, as far as they matter: the first, and whether there is another

abbrev pub Found : Type 0
Found = Option (ℕ × Col × Bool)

abbrev pub is_some_item : List (ℕ × Col) → Bool
is_some_item [] = false
is_some_item (x ∷ rest) = true

abbrev pub summary : List (ℕ × Col) → Found
summary [] = None
summary (x ∷ rest) = Some (x.0, x.1, is_some_item rest)

abbrev pub join : Found → Found → Found
join None s = s
join (Some h) None = Some h
join (Some h) (Some k) = Some (h.0, h.1, true)

abbrev pub hit : Option Hit → Found
hit None = None
hit (Some h) = Some (h.at, h.col.now, h.again)

abbrev pub column : Option (ℕ × Bor Col) → Option (ℕ × Col)
column None = None
column (Some c) = Some (c.0, c.1.now)

-- the columns of a name in a list, counted from a position
abbrev pub named_from : List ℕ → ℕ → List Col → List (ℕ × Col)
named_from name n [] = []
named_from name n (c ∷ cs) = if same_name c.name name then (n, c) ∷ named_from name (n + 1) cs else named_from name (n + 1) cs

-- ---- what a name stands for

abbrev pub ambiguous_by : Option Name → ℕ → Bool → Option Refusal
ambiguous_by None place again = least (unless (not again) code.Ambiguous place)
ambiguous_by (Some second) place again = None

abbrev pub ambiguous : Column → Bool → Option Refusal
ambiguous c again = ambiguous_by c.second c.first.at again

-- what is seen of a name that stands for a column, or for none
abbrev pub named : Option (ℕ × Col) → Option Refusal → Typed
named None fault = record (typed (literal constant_null)) { fault = fault }
named (Some c) fault = record (typed (plain_column c)) { fault = fault }
