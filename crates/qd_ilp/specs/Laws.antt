-- Laws: the reading from left to right gives what the grammar says, and nothing else.
use Rattle.std.specs.Prelude.{◌≡◌, ℕ, Bool, true, false, List, Option, Some, ◌↔◌, [], ◌∷◌, None, pos, codes, ◌++◌}
use Rattle.qd_base.specs.declared.cell.Cell.TheVariants as cell
use Rattle.qd_base.specs.declared.schema.ColType.{ColType}
use Rattle.qd_base.specs.declared.schema.ColType.TheVariants as kind
use Rattle.qd_base.specs.declared.schema.PartUnit.TheVariants as unit
use Rattle.qd_base.specs.declared.schema.Col.{Col}
use Rattle.qd_base.specs.declared.schema.Schema.{Schema}
use Rattle.qd_base.specs.declared.op.Op.TheVariants as op
use Rattle.qd_ilp.specs.Transaction.{transaction_of_lines}
use Rattle.qd_ilp.specs.Whole.{Reading, IsReading}
use Rattle.qd_ilp.specs.Cut.{cut, word, closed, is_special, is_quoted_special, stops, ends_word}
use Rattle.qd_ilp.specs.Printed.{escaped, is_one_line, ItemIn, RowIn}
use Rattle.qd_ilp.specs.Value.{Value, Tag, Text, Long, Truth, Moment, At}
use Rattle.qd_ilp.specs.Line.{Item, Row, item_at, tags_at, tail_at, row_at, Line, read_line, Blank, Gives}
use Rattle.qd_ilp.specs.Grammar.{Name, Word, Quoted, IsItem, Items, Tail, IsRow, ReadsLine}

-- A name, a value that is no text and a quoted text end where they are cut, and are what the cut gives.
pub record PartsAreCut : Type 0 where
  pub names : (text name rest : List ℕ) → (cut false text ≡ (name, rest)) ↔ Name text name rest
  pub words : (text w rest : List ℕ) → (word text ≡ (w, rest)) ↔ Word text w rest
  pub texts : (text quoted rest : List ℕ) → (closed false text ≡ Some (quoted, rest)) ↔ Quoted text quoted rest
  pub items : (tag : Bool) (text : List ℕ) (item : Item) (rest : List ℕ) → (item_at tag text ≡ Some (item, rest)) ↔ IsItem tag text item rest
  pub tags : (text : List ℕ) (tags : List Item) (rest : List ℕ) → (tags_at text ≡ Some (tags, rest)) ↔ Items true text tags rest
  pub tails : (text : List ℕ) (moment : Option Moment) (rest : List ℕ) → (tail_at text ≡ Some (moment, rest)) ↔ Tail text moment rest
  pub rows : (text : List ℕ) (row : Row) (rest : List ℕ) → (row_at text ≡ Some (row, rest)) ↔ IsRow text row rest
  pub lines : (text : List ℕ) (line : Line) (rest : List ℕ) → (read_line text ≡ Some (line, rest)) ↔ ReadsLine text line rest

-- Every text is read, up to its end or up to its first line that is outside the grammar, and in one way only.
pub record TextsAreRead : Type 0 where
  pub always : (text : List ℕ) → (reading : Reading) × IsReading text reading
  pub once : (text : List ℕ) (a b : Reading) → IsReading text a → IsReading text b → a ≡ b

-- a line of table `t`
abbrev pub line_of_t : List Item → ℕ → Line
line_of_t items micros = Gives (record { table = codes "t"; items = items; moment = Some (At micros) })

abbrev pub item_of : List ℕ → Value → Item
item_of name value = record { name = name; value = value }

abbrev pub column_of : List ℕ → ColType → Col
column_of name type = record { name = name; kind = type }

-- table `t` as a line with the integer field `v` makes it
abbrev pub table_t : Schema
table_t = record { name = codes "t"; cols = column_of (codes "v") kind.Long ∷ column_of (codes "timestamp") kind.Time ∷ []; time_col = 1; unit = unit.Day; keys = [] }

-- Worked examples of transactions.
pub record WorkedLines : Type 0 where
  -- a line makes its table; the rows of lines that follow one another in one table are one insertion, whatever the case of its name
  pub together :
      transaction_of_lines [] 0 (line_of_t (item_of (codes "v") (Long (pos 1)) ∷ []) 1 ∷ Blank ∷ Gives (record { table = codes "T"; items = item_of (codes "V") (Long (pos 2)) ∷ []; moment = Some (At 2) }) ∷ [])
      ≡ record { ops = op.Create table_t ∷ op.Insert (codes "t") ((cell.Long (pos 1) ∷ cell.Time 1 ∷ []) ∷ (cell.Long (pos 2) ∷ cell.Time 2 ∷ []) ∷ []) ∷ [] }
  -- new columns come behind the others, in the line's order, before its row
  pub columns :
      transaction_of_lines [] 0 (line_of_t (item_of (codes "v") (Long (pos 1)) ∷ []) 1000000 ∷ line_of_t (item_of (codes "v") (Long (pos 2)) ∷ item_of (codes "s") (Text (codes "x")) ∷ item_of (codes "ok") (Truth true) ∷ []) 2000000 ∷ [])
      ≡ record {
        ops =
            op.Create table_t ∷ op.Insert (codes "t") ((cell.Long (pos 1) ∷ cell.Time 1000000 ∷ []) ∷ [])
            ∷ op.AddColumn (codes "t") (column_of (codes "s") kind.Varchar) ∷ op.AddColumn (codes "t") (column_of (codes "ok") kind.Bool)
            ∷ op.Insert (codes "t") ((cell.Long (pos 2) ∷ cell.Time 2000000 ∷ cell.Text (codes "x") ∷ cell.Bool true ∷ []) ∷ []) ∷ [];
      }
  -- a line without a stamp takes the given time; a column that it doesn't name holds NULL, or false
  pub missing :
      transaction_of_lines (table_t ∷ []) 7 (Gives (record { table = codes "t"; items = item_of (codes "k") (Tag (codes "a")) ∷ []; moment = None }) ∷ [])
      ≡ record { ops = op.AddColumn (codes "t") (column_of (codes "k") kind.Symbol) ∷ op.Insert (codes "t") ((cell.Null ∷ cell.Time 7 ∷ cell.Text (codes "a") ∷ []) ∷ []) ∷ [] }

-- A name, a quoted text and a tag or field that are written with every escape that they need are read back, where what
-- follows ends them.
pub record EscapesAreUndone : Type 0 where
  pub names : (name rest : List ℕ) → is_one_line name ≡ true → stops rest ≡ true → Name (escaped is_special name ++ rest) name rest
  pub texts : (text rest : List ℕ) → Quoted (escaped is_quoted_special text ++ 34 ∷ rest) text rest
  pub items : (tag : Bool) (item : Item) (bytes rest : List ℕ) → ItemIn tag item bytes → stops rest ≡ true → ends_word rest ≡ true → IsItem tag (bytes ++ rest) item rest
  -- a row that is written as a line, and LF
  pub rows : (row : Row) (bytes rest : List ℕ) → RowIn row bytes → IsRow (bytes ++ 10 ∷ rest) row rest
