-- What rows behind the first ones of a column go on with.
use Rattle.std.specs.Prelude.{◌≡◌, ℕ, ◌==◌, List, [], ◌++◌, if◌then◌else◌, fold, length, slice_index_or}
use Rattle.std.specs.List.{flat_map}
use Rattle.qd_base.specs.declared.cell.Cell.{Cell}
use Rattle.qd_base.specs.declared.limits.TheConstants.{NULL_ID}
use Rattle.qd_base.specs.declared.schema.ColType.{ColType}
use Rattle.qd_base.specs.declared.schema.ColType.TheVariants as kind
use Rattle.qd_base.specs.Dictionary.{with_text}
use Rattle.qd_column.specs.Cells.{CellsOf}
use Rattle.qd_column.specs.Symbols.{texts_in}
use Rattle.qd_column_format.specs.declared.encode.ColumnBytes.{ColumnBytes}
use Rattle.qd_column_format.specs.Added.{column_of, IsAdded, SpellsItself}
use Rattle.qd_column_format.specs.Spelling.{text_bytes}

-- the texts that rows of a SYMBOL column have named, and how many bytes the texts of a VARCHAR column take
pub record Behind : Type 0 where
  pub texts : List (List ℕ)
  pub end : ℕ

abbrev pub texts_named : ColType → List Cell → List (List ℕ)
texts_named kind.Symbol cells = texts_in cells
texts_named _ cells = []

abbrev pub texts_end : ColType → List Cell → ℕ
texts_end kind.Varchar cells = length (flat_map text_bytes cells)
texts_end _ cells = 0

-- what rows behind those of a column go on with
abbrev pub behind : CellsOf → Behind
behind column = record { texts = texts_named column.kind column.cells; end = texts_end column.kind column.cells }

-- a column with more rows
abbrev pub joined : CellsOf → List Cell → CellsOf
joined first cells = record first { cells = first.cells ++ cells }

-- What some rows of a column add to its two files behind those of its first ones, and that all can be stored then.
pub record AddsBehind (k : ColType) (first rows : List Cell) (bytes : ColumnBytes) : Type 0 where
  pub added : IsAdded (length first) (column_of k (first ++ rows)) bytes
  pub spelled : SpellsItself (column_of k (first ++ rows))

-- They add bytes, and the next rows go on behind them.
pub record GoesFurther (first : CellsOf) (rows : List Cell) (new : Behind) (bytes : ColumnBytes) : Type 0 where
  pub adds : AddsBehind first.kind first.cells rows bytes
  pub behind : new ≡ behind (joined first rows)

-- ---- steps

-- the texts of a dictionary and those of another one that it lacks
abbrev pub with_texts : List (List ℕ) → List (List ℕ) → List (List ℕ)
with_texts texts more = fold with_text texts more

-- the id by which a text is known elsewhere; NULL stays
abbrev pub id_anew : List ℕ → ℕ → ℕ
id_anew names id = if id == NULL_ID then NULL_ID else slice_index_or names id 0
