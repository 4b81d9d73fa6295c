-- What INSERT puts into a table, and where it is refused. QuestDB documentation, "INSERT".
use Rattle.std.specs.Prelude.{ℕ, ◌==◌, true, false, not, nat_le, List, [], ◌++◌, map, length, find, slice_get, Option, Some, None, pos, neg_ℤ, unwrap_or}
use Rattle.std.specs.List.{flat_map, list_any, zip, range_with_len}
use Rattle.qd_base.specs.declared.limits.TheConstants.{MAX_TEXT_BYTES}
use Rattle.qd_base.specs.declared.code.Code.TheVariants as code
use Rattle.qd_base.specs.declared.cell.Cell.{Cell}
use Rattle.qd_base.specs.declared.cell.Cell.TheVariants as cell
use Rattle.qd_base.specs.declared.schema.ColType.{ColType}
use Rattle.qd_base.specs.declared.schema.ColType.TheVariants as kind
use Rattle.qd_base.specs.declared.schema.Col.{Col}
use Rattle.qd_base.specs.declared.schema.Schema.{Schema}
use Rattle.qd_base.specs.Rows.{Row}
use Rattle.qd_base.specs.Schemas.{column_at}
use Rattle.qd_base.specs.Database.{missing}
use Rattle.qd_sql_ast.specs.declared.tree.Name.{Name}
use Rattle.qd_sql_ast.specs.declared.tree.Lit.{Lit}
use Rattle.qd_sql_ast.specs.declared.tree.Lit.TheVariants as lit
use Rattle.qd_sql_ast.specs.declared.tree.Tuple.{Tuple}
use Rattle.qd_sql_ast.specs.declared.tree.Insert.{Insert}
use Rattle.qd_meaning.specs.declared.refusal.Refusal.{Refusal}
use Rattle.qd_meaning.specs.Refusals.{at, unless}
use Rattle.qd_meaning.specs.TimeTexts.{time_of_text, time_of_number}
use Rattle.qd_meaning.specs.Typing.{time_cell, time_faults}
use Rattle.qd_meaning.specs.Creating.{column_name_faults, table_name_faults, named_twice, unknown_column}

-- ---- one literal and its column

-- a cell and the refusals on the way
abbrev pub Taken : Type 0
Taken = Cell × List Refusal

abbrev pub takes : Cell → Taken
takes c = (c, [])

abbrev pub refuses : ℕ → Taken
refuses place = (cell.Null, at code.Types place)

abbrev pub place_of : Lit → ℕ
place_of (lit.Number n) = n.at
place_of (lit.Minus minus n) = minus
place_of (lit.Text t) = t.at
place_of (lit.True place) = place
place_of (lit.False place) = place
place_of (lit.Null place) = place

-- A LONG column takes a number, a BOOLEAN one TRUE and FALSE, a SYMBOL or VARCHAR one a text, a TIMESTAMP one a text or a number
-- that is a time; each takes NULL, which is false in a BOOLEAN one.
abbrev pub taken_by : ColType → Lit → Taken
taken_by kind.Long (lit.Number n) = takes (cell.Long (pos n.value))
taken_by kind.Long (lit.Minus minus n) = takes (cell.Long (neg_ℤ (pos n.value)))
taken_by kind.Bool (lit.True place) = takes (cell.Bool true)
taken_by kind.Bool (lit.False place) = takes (cell.Bool false)
taken_by kind.Symbol (lit.Text t) = takes (cell.Text t.text)
taken_by kind.Varchar (lit.Text t) = takes (cell.Text t.text)
taken_by kind.Time (lit.Text t) = (time_cell (time_of_text t.text), time_faults (time_of_text t.text) t.at)
taken_by kind.Time (lit.Number n) = (time_cell (time_of_number (pos n.value)), time_faults (time_of_number (pos n.value)) n.at)
taken_by kind.Time (lit.Minus minus n) = (time_cell (time_of_number (neg_ℤ (pos n.value))), time_faults (time_of_number (neg_ℤ (pos n.value))) minus)
taken_by k (lit.Null place) = takes (missing k)
taken_by _ l = refuses (place_of l)

-- ---- one tuple

-- a column that a tuple gives a value: its position and its type
abbrev pub Target : Type 0
Target = ℕ × ColType

-- NULL can't be the designated time
abbrev pub null_faults : ℕ → Target → Lit → List Refusal
null_faults time_col target (lit.Null place) = unless (not (target.0 == time_col)) code.TimeLiteral place
null_faults time_col target _ = []

-- a text may be too long
abbrev pub length_faults : Lit → List Refusal
length_faults (lit.Text t) = unless (nat_le (length t.text) MAX_TEXT_BYTES) code.TextTooLong t.at
length_faults _ = []

abbrev pub literal_faults : ℕ → Target × Lit → List Refusal
literal_faults time_col x = (taken_by x.0.1 x.1).1 ++ null_faults time_col x.0 x.1 ++ length_faults x.1

-- a tuple has one literal for each column, and one for the designated one
abbrev pub tuple_faults : ℕ → List Target → Tuple → List Refusal
tuple_faults time_col targets t =
    unless (length t.lits == length targets) code.Types t.at ++ unless (list_any (λ (x : Target). x.0 == time_col) targets) code.TimeLiteral t.at
    ++ flat_map (literal_faults time_col) (zip targets t.lits)

abbrev pub cell_or : Cell → Option (Target × Lit) → Cell
cell_or other None = other
cell_or other (Some x) = (taken_by x.0.1 x.1).0

-- the cell of a column: what the tuple gives it, else NULL or false
abbrev pub cell_for : List (Target × Lit) → ℕ × Col → Cell
cell_for given c = cell_or (missing c.1.kind) (find (λ (x : Target × Lit). x.0.0 == c.0) given)

abbrev pub row_of : List Col → List Target → Tuple → Row
row_of cols targets t = map (cell_for (zip targets t.lits)) (zip (range_with_len 0 (length cols)) cols)

-- ---- the whole

abbrev pub target_at : List Col → ℕ → Option Col → Target
target_at cols n None = (n, kind.Long)
target_at cols n (Some col) = (n, col.kind)

abbrev pub target_of : List Col → Name → Target
target_of cols name = target_at cols (unwrap_or (column_at cols name.text) 0) (slice_get cols (unwrap_or (column_at cols name.text) 0))

-- without a list all columns are meant, in order
abbrev pub targets_of : List Col → Option (List Name) → List Target
targets_of cols None = zip (range_with_len 0 (length cols)) (map (λ (c : Col). c.kind) cols)
targets_of cols (Some names) = map (target_of cols) names

abbrev pub listed : Option (List Name) → List Name
listed None = []
listed (Some names) = names

-- the rows of an INSERT into a table
abbrev pub inserted_rows : Schema → Insert → List Row
inserted_rows s i = map (row_of s.cols (targets_of s.cols i.columns)) i.tuples

-- what is refused in an INSERT into a table
abbrev pub faults_in : Schema → Insert → List Refusal
faults_in s i = flat_map (unknown_column s.cols) (listed i.columns) ++ flat_map (tuple_faults s.time_col (targets_of s.cols i.columns)) i.tuples

abbrev pub table_faults : Option Schema → Insert → List Refusal
table_faults None i = at code.UnknownTable i.table.at
table_faults (Some s) i = faults_in s i

-- all refusals of an INSERT, where its table is this one
abbrev pub insert_faults : Option Schema → Insert → List Refusal
insert_faults table i = table_name_faults i.table ++ flat_map column_name_faults (listed i.columns) ++ named_twice (listed i.columns) ++ table_faults table i
