-- The output columns of a query: their names and types. QuestDB documentation, "SELECT".
use Rattle.std.specs.Prelude.{ℕ, ◌+◌, Bool, false, not, if◌then◌else◌, List, [], ◌∷◌, ◌++◌, length, find, codes, Option, Some, None, unwrap_or}
use Rattle.std.specs.List.{list_any, range_with_len}
use Rattle.std.specs.Fmt.{decimal}
use Rattle.qd_base.specs.declared.cell.Cell.{Cell}
use Rattle.qd_base.specs.declared.cell.Cell.TheVariants as cell
use Rattle.qd_base.specs.declared.schema.ColType.{ColType}
use Rattle.qd_base.specs.declared.schema.ColType.TheVariants as kind
use Rattle.qd_base.specs.Schemas.{same_name}
use Rattle.qd_sql_ast.specs.declared.tree.Name.{Name}
use Rattle.qd_sql_ast.specs.declared.tree.AggOf.{AggOf}
use Rattle.qd_sql_ast.specs.declared.tree.AggOf.TheVariants as function
use Rattle.qd_value.specs.Cells.{Class, number, truth, text, time}
use Rattle.qd_meaning.specs.Typing.{Form, Plain, Typed}

-- ---- types

abbrev pub kind_of_class : Option Class → ColType
kind_of_class None = kind.Long
kind_of_class (Some number) = kind.Long
kind_of_class (Some truth) = kind.Bool
kind_of_class (Some text) = kind.Varchar
kind_of_class (Some time) = kind.Time

-- a plain column has its own type, another expression that of its class
abbrev pub kind_by : Form → Option Class → ColType
kind_by (Plain n col) class = col.kind
kind_by _ class = kind_of_class class

abbrev pub kind_of : Typed → ColType
kind_of x = kind_by x.form x.class

-- a sum is a number; the others have the type of what they are made of
abbrev pub kind_of_agg : AggOf → Typed → ColType
kind_of_agg function.Sum x = kind.Long
kind_of_agg _ x = kind_of x

-- ---- names

abbrev pub name_by : Form → List ℕ
name_by (Plain n col) = col.name
name_by _ = codes "column"

abbrev pub name_of_agg : AggOf → List ℕ
name_of_agg function.Sum = codes "sum"
name_of_agg function.Min = codes "min"
name_of_agg function.Max = codes "max"
name_of_agg function.First = codes "first"
name_of_agg function.Last = codes "last"

abbrev pub alias_or : Option Name → List ℕ → List ℕ
alias_or None name = name
alias_or (Some alias) name = alias.text

abbrev pub is_taken : List (List ℕ) → List ℕ → Bool
is_taken taken name = list_any (same_name name) taken

abbrev pub numbered : List ℕ → ℕ → List ℕ
numbered name n = name ++ decimal n

-- the least number from 1 that makes a name new; one of the first that are one more than the names taken does
abbrev pub least_new : List (List ℕ) → List ℕ → ℕ
least_new taken name = unwrap_or (find (λ n. not (is_taken taken (numbered name n))) (range_with_len 1 (length taken + 1))) 0

abbrev pub made_new : List (List ℕ) → List ℕ → List ℕ
made_new taken name = if is_taken taken name then numbered name (least_new taken name) else name

-- the output names of some names, from left to right, behind those that are taken
abbrev pub names_from : List (List ℕ) → List (List ℕ) → List (List ℕ)
names_from taken [] = []
names_from taken (n ∷ ns) = let name = made_new taken n in name ∷ names_from (taken ++ name ∷ []) ns

abbrev pub output_names : List (List ℕ) → List (List ℕ)
output_names names = names_from [] names

-- ---- cells

-- a cell of a BOOLEAN output column that would be NULL is false
abbrev pub null_as_false : Cell → Cell
null_as_false cell.Null = cell.Bool false
null_as_false c = c

abbrev pub shown_as : ColType → Cell → Cell
shown_as kind.Bool c = null_as_false c
shown_as _ c = c
