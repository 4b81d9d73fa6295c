-- The rows of one table, and how a row comes into them. QuestDB documentation: designated timestamp (rows lie in
-- order of it), deduplication (UPSERT KEYS).
use Rattle.std.specs.Prelude.{ℕ, Bool, true, false, not, List, [], ◌∷◌, ◌++◌, ◌==◌, nat_eq, nat_lt, nat_le, filter, slice_index_or}
use Rattle.std.specs.List.{list_all}
use Rattle.std.specs.Ordering.{int_eq}
use Rattle.std.specs.Cmp.Lexicographic.{pointwise}
use mathlib.Core.Bool.{beq}
use Rattle.qd_base.specs.declared.cell.Cell.{Cell}
use Rattle.qd_base.specs.declared.cell.Cell.TheVariants as cell

-- a row as contracts see it: a cell for each column
abbrev pub Row : Type 0
Row = List Cell

-- whether two cells are equal; NULL is equal to NULL
abbrev pub cell_eq : Cell → Cell → Bool
cell_eq cell.Null cell.Null = true
cell_eq (cell.Long x) (cell.Long y) = int_eq x y
cell_eq (cell.Bool x) (cell.Bool y) = beq x y
cell_eq (cell.Text x) (cell.Text y) = pointwise nat_eq x y
cell_eq (cell.Time x) (cell.Time y) = x == y
cell_eq _ _ = false

-- the cell in a column; a column that the row lacks holds NULL
abbrev pub cell_at : Row → ℕ → Cell
cell_at row col = slice_index_or row col cell.Null

-- the moment that a cell of a TIMESTAMP column holds
abbrev pub time_in : Cell → ℕ
time_in cell.Null = 0
time_in (cell.Long x) = 0
time_in (cell.Bool x) = 0
time_in (cell.Text x) = 0
time_in (cell.Time x) = x

-- the designated timestamp of a row
abbrev pub time_of : ℕ → Row → ℕ
time_of col row = time_in (cell_at row col)

-- whether two rows are equal on all of the keys
abbrev pub same_on : List ℕ → Row → Row → Bool
same_on keys a b = list_all (λ k. cell_eq (cell_at a k) (cell_at b k)) keys

-- the rows that a row with these keys leaves: all without keys, else those that differ from it on a key
abbrev pub without_equals : List ℕ → List Row → Row → List Row
without_equals [] rows row = rows
without_equals (k ∷ ks) rows row = filter (λ x. not (same_on (k ∷ ks) x row)) rows

-- the rows with a time at most the row's, then the row, then the rest
abbrev pub in_time : ℕ → List Row → Row → List Row
in_time col rows row =
    filter (λ x. nat_le (time_of col x) (time_of col row)) rows ++ row ∷ filter (λ x. nat_lt (time_of col row) (time_of col x)) rows

-- one row into the rows of a table whose designated column is `col`
abbrev pub put : ℕ → List ℕ → List Row → Row → List Row
put col keys rows row = in_time col (without_equals keys rows row) row
