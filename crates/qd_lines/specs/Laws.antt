-- Laws of what lines say and do.
use Rattle.std.specs.Prelude.{◌≡◌, ℕ, ◌+◌, ◌<◌, ◌≤◌, ◌<ℤ◌, ◌≤ℤ◌, Bool, true, List, ◌++◌, length, fold, sum_by, All, Option, Some, Result, Ok, Err}
use Rattle.std.specs.List.{AllByRecursion}
use Rattle.qd_base.specs.declared.limits.TheConstants.{MAX_BATCH_CELLS, MAX_LONG, MAX_TIME, NULL_LONG}
use Rattle.qd_base.specs.declared.code.Code.{Code}
use Rattle.qd_base.specs.declared.schema.Schema.{Schema}
use Rattle.qd_base.specs.declared.op.Op.{Op}
use Rattle.qd_base.specs.declared.op.Op.TheVariants as op
use Rattle.qd_base.specs.declared.op.Entry.{Entry}
use Rattle.qd_base.specs.Schemas.{schema_of, schemas_step, SetsNoKeys}
use Rattle.qd_base.specs.Database.{Database, step, schemas_of}
use Rattle.qd_base.specs.Replay.{commit}
use Rattle.qd_base.specs.Lawful.{AreLawful, AreSchemas, cells_of}
use Rattle.qd_ilp.specs.Value.{Value, Tag, Text, Long, Moment, At}
use Rattle.qd_ilp.specs.Line.{Item, Row, Line, Blank, Gives}
use Rattle.qd_ilp.specs.Transaction.{HasCode, Work, Says, line_ops, start, transaction_of_lines}
use Rattle.qd_ilp.specs.Whole.{Reading, IsReading}

-- From any work and any number on, lines say one thing at most.
abbrev pub OneAnswer : Type 0
OneAnswer = (now : ℕ) (w : Work) (number : ℕ) (lines : List Line) (whole : Bool) (a b : Result Entry (Code × ℕ)) → Says now w number lines whole a → Says now w number lines whole b → a ≡ b

-- From any work and any number on, they say something.
abbrev pub EveryBatchIsAnswered : Type 0
EveryBatchIsAnswered = (now : ℕ) (w : Work) (number : ℕ) (lines : List Line) (whole : Bool) → (answer : Result Entry (Code × ℕ)) × Says now w number lines whole answer

-- ---- what an answer is

-- how many rows a change inserts, and how many a line gives
abbrev pub rows_in : Op → ℕ
rows_in (op.Create schema) = 0
rows_in (op.AddColumn table col) = 0
rows_in (op.Insert table rows) = length rows
rows_in (op.SetKeys table keys) = 0

abbrev pub rows_given : Line → ℕ
rows_given Blank = 0
rows_given (Gives row) = 1

-- What a transaction or a refusal has to do with the lines.
pub record AnswersFit : Type 0 where
  -- A transaction comes only where all lines are of the grammar, and is that of all of them.
  pub made : (now number : ℕ) (schemas : List Schema) (lines : List Line) (whole : Bool) (entry : Entry) → Says now (start schemas) number lines whole (Ok entry) → (whole ≡ true) × (entry ≡ transaction_of_lines schemas now lines)
  -- It inserts as many rows as there are lines that give one.
  pub rows : (now number : ℕ) (schemas : List Schema) (lines : List Line) (whole : Bool) (entry : Entry) → Says now (start schemas) number lines whole (Ok entry) → sum_by rows_in entry.ops ≡ sum_by rows_given lines
  -- A refusal names one of the lines, or the one behind them.
  pub named : (now : ℕ) (w : Work) (number : ℕ) (lines : List Line) (whole : Bool) (c : Code) (n : ℕ) → Says now w number lines whole (Err (c, n)) → (number ≤ n) × (n ≤ number + length lines)
  -- A refusal of one of the lines stands, whatever lines follow.
  pub early : (now : ℕ) (w : Work) (number : ℕ) (lines more : List Line) (whole all : Bool) (c : Code) (n : ℕ) → n < number + length lines → Says now w number lines whole (Err (c, n)) → Says now w number (lines ++ more) all (Err (c, n))

-- ---- what a transaction does

-- A line alone: the database after its changes, whatever its table is by then.
abbrev pub after_line : ℕ → Database → Line → Database
after_line now db Blank = db
after_line now db (Gives row) = fold step db (line_ops (schema_of (schemas_of db) row.table) now row)

-- The transaction of lines leaves the database that the lines leave one after the other.
abbrev pub LinesActInTurn : Type 0
LinesActInTurn = (now : ℕ) (db : Database) (number : ℕ) (lines : List Line) (whole : Bool) (entry : Entry) → Says now (start (schemas_of db)) number lines whole (Ok entry) → commit db entry ≡ fold (after_line now) db lines

-- ---- what can be read

-- a value that a line can have: a text is one of bytes, and a LONG is a 64-bit number, and not the one that stands for NULL
abbrev pub IsReadable : Value → Type 0
IsReadable (Tag text) = All (λ b. b < 256) text
IsReadable (Text text) = All (λ b. b < 256) text
IsReadable (Long number) = (NULL_LONG <ℤ number) × (number ≤ℤ MAX_LONG)
IsReadable _ = Unit {0}

-- a stamp is no later than the greatest timestamp, or is none of the product
abbrev pub IsStamped : Option Moment → Type 0
IsStamped (Some (At micros)) = micros ≤ MAX_TIME
IsStamped _ = Unit {0}

pub record IsRowReadable (row : Row) : Type 0 where
  pub values : AllByRecursion (λ (i : Item). IsReadable i.value) row.items
  pub moment : IsStamped row.moment

abbrev pub IsLineReadable : Line → Type 0
IsLineReadable Blank = Unit {0}
IsLineReadable (Gives row) = IsRowReadable row

-- ---- what lines do

-- Changes are lawful over these schemas, leave others that a lawful history can leave, and set no keys.
pub record KeepLaws (schemas : List Schema) (ops : List Op) : Type 0 where
  pub lawful : AreLawful schemas ops
  pub after : AreSchemas (fold schemas_step schemas ops)
  pub keys : SetsNoKeys ops

-- Over schemas that a lawful history can leave, what lines do is lawful, and leaves such schemas.
pub record BatchesAreLawful : Type 0 where
  -- one line without a code, over the schemas that the lines before it have left
  pub line : (now cells : ℕ) (schemas : List Schema) (row : Row) → AreSchemas schemas → IsRowReadable row → ((c : Code) → HasCode schemas cells now row c → ⊥) → KeepLaws schemas (line_ops (schema_of schemas row.table) now row)
  -- all lines
  pub lines : (now : ℕ) (schemas : List Schema) (number : ℕ) (ls : List Line) (whole : Bool) (entry : Entry) → AreSchemas schemas → AllByRecursion IsLineReadable ls → Says now (start schemas) number ls whole (Ok entry)
      → KeepLaws schemas entry.ops × (cells_of entry ≤ MAX_BATCH_CELLS)
  -- the lines of a text of bytes
  pub text : (now : ℕ) (schemas : List Schema) (number : ℕ) (text : List ℕ) (reading : Reading) (entry : Entry) → AreSchemas schemas → All (λ b. b < 256) text → IsReading text reading → Says now (start schemas) number reading.lines reading.whole (Ok entry)
      → KeepLaws schemas entry.ops × (cells_of entry ≤ MAX_BATCH_CELLS)
