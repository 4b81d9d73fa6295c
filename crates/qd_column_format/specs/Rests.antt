-- The rows of a stored column from one on, and what two files hold of them.
use Rattle.std.specs.Prelude.{◌≡◌, ℕ, ◌-◌, ◌*◌, ◌<◌, ◌≤◌, List, ◌++◌, length, take, drop}
use Rattle.qd_base.specs.declared.cell.Cell.{Cell}
use Rattle.qd_base.specs.declared.schema.ColType.{ColType}
use Rattle.qd_base.specs.declared.schema.ColType.TheVariants as kind
use Rattle.qd_column.specs.Cells.{CellsOf}
use Rattle.qd_column_format.specs.Added.{column_of, SpellsItself}
use Rattle.qd_column_format.specs.Fields.{field_size}
use Rattle.qd_column_format.specs.Spelling.{main_of, aux_of, BeginsWith, SpellsColumn}
use Rattle.qd_column_format.specs.Tails.{texts_end}

-- the rows of a column from one on
abbrev pub rows_from : ℕ → CellsOf → CellsOf
rows_from skip column = record column { cells = drop skip column.cells }

-- Where the second file holds the first thing that the rows from one on need: in a VARCHAR column behind the texts of the
-- rows before, in a SYMBOL column at its beginning.
abbrev pub texts_from : ℕ → CellsOf → ℕ
texts_from skip column = texts_end column.kind (take skip column.cells)

-- Bytes hold the rows of a stored column from one on: the first ones begin with the numbers of these rows, as the main file
-- has them, and the second ones with the texts, from a place of the second file on. What follows is of no account.
pub record HoldsRest (skip start : ℕ) (main aux : List ℕ) (column : CellsOf) : Type 0 where
  pub stored : SpellsItself column
  pub rows : BeginsWith main (drop (skip * field_size column.kind) (main_of column))
  pub texts : BeginsWith aux (drop (texts_from skip column) (aux_of column))
  pub place : column.kind ≡ kind.Varchar → start ≡ texts_from skip column

-- Bytes hold rows: they are those from one on of a column that can be stored.
pub record IsHeldRest (start : ℕ) (main aux : List ℕ) (rest : CellsOf) : Type 0 where
  pub skip : ℕ
  pub whole : CellsOf
  pub held : HoldsRest skip start main aux whole
  pub is : rest ≡ rows_from skip whole

-- Bytes are those of the mark of the last row before one, in the main file of a stored VARCHAR column.
pub record HoldsMark (skip : ℕ) (bytes : List ℕ) (column : CellsOf) : Type 0 where
  pub stored : SpellsItself column
  pub kind : column.kind ≡ kind.Varchar
  pub some : 0 < skip
  pub within : skip ≤ length column.cells
  pub mark : bytes ≡ take 8 (drop ((skip - 1) * 8) (main_of column))

-- What going on behind the rows of a stored column needs of its two files, by its kind. Of a SYMBOL column: bytes that spell it, since
-- each of its ids may be the greatest. Of a VARCHAR column that has rows: the mark of the last one. Of the others nothing.
abbrev pub HoldsTail : ColType → List ℕ → List ℕ → CellsOf → Type 0
HoldsTail kind.Symbol main aux column = SpellsColumn main aux column
HoldsTail kind.Varchar main aux column = 0 < length column.cells → HoldsMark (length column.cells) main column
HoldsTail _ main aux column = Unit {0}
