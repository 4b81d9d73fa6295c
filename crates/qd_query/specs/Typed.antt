-- Answers are typed: each cell of a result row is of its column's type. QuestDB documentation, "Data types", "Type nullability".
use Rattle.std.specs.Prelude.{◌≡◌, List, All, Ok}
use Rattle.std.specs.List.{AllZip}
use Rattle.qd_base.specs.declared.cell.Cell.{Cell}
use Rattle.qd_base.specs.declared.cell.Cell.TheVariants as cell
use Rattle.qd_base.specs.declared.schema.Col.{Col}
use Rattle.qd_base.specs.declared.schema.ColType.{ColType}
use Rattle.qd_base.specs.declared.schema.ColType.TheVariants as kind
use Rattle.qd_base.specs.declared.request.Table.{Table}
use Rattle.qd_base.specs.Database.{Database, StoredTable, schemas_of}
use Rattle.qd_base.specs.Lawful.{AreSchemas, IsRowOf}
use Rattle.qd_base.specs.Rows.{Row}
use Rattle.qd_sql_ast.specs.declared.tree.Stmt.{Stmt}
use Rattle.qd_meaning.specs.Answer.{answer}

-- a value of a column's type, or NULL, which a BOOLEAN column doesn't have
abbrev pub IsOfKind : ColType → Cell → Type 0
IsOfKind kind.Bool (cell.Bool b) = Unit {0}
IsOfKind kind.Long (cell.Long x) = Unit {0}
IsOfKind kind.Long cell.Null = Unit {0}
IsOfKind kind.Symbol (cell.Text t) = Unit {0}
IsOfKind kind.Symbol cell.Null = Unit {0}
IsOfKind kind.Varchar (cell.Text t) = Unit {0}
IsOfKind kind.Varchar cell.Null = Unit {0}
IsOfKind kind.Time (cell.Time t) = Unit {0}
IsOfKind kind.Time cell.Null = Unit {0}
IsOfKind _ _ = ⊥

-- a row has one cell for each column, of its type
abbrev pub IsTypedBy : List Col → Row → Type 0
IsTypedBy cols row = AllZip (λ (c : Col) (x : Cell). IsOfKind c.kind x) cols row

-- tables such as lawful transactions leave
pub record AreLawfulTables (db : Database) : Type 0 where
  pub schemas : AreSchemas (schemas_of db)
  pub rows : All (λ (t : StoredTable). All (IsRowOf t.schema) t.rows) db

-- Over such tables each row of an answer is typed by the answer's columns.
abbrev pub AnswersAreTyped : Type 0
AnswersAreTyped = (db : Database) (s : Stmt) (t : Table) → AreLawfulTables db → answer db s ≡ Ok t → All (IsTypedBy t.cols) t.rows
