-- The rules of statements that write, and of SHOW.
use Rattle.std.specs.Prelude.{if◌then◌else◌, List, codes, Option, Some, None, Ok, Err}
use Rattle.qd_base.specs.declared.schema.ColType.{ColType}
use Rattle.qd_base.specs.declared.schema.ColType.TheVariants as type
use Rattle.qd_base.specs.declared.schema.PartUnit.{PartUnit}
use Rattle.qd_base.specs.declared.schema.PartUnit.TheVariants as part
use Rattle.qd_sql_lexer.specs.declared.token.Kind.TheVariants as sign_kind
use Rattle.qd_sql_ast.specs.declared.tree.Name.{Name}
use Rattle.qd_sql_ast.specs.declared.tree.Lit.{Lit}
use Rattle.qd_sql_ast.specs.declared.tree.Lit.TheVariants as literal
use Rattle.qd_sql_ast.specs.declared.tree.Alter.{Alter}
use Rattle.qd_sql_ast.specs.declared.tree.Change.{Change}
use Rattle.qd_sql_ast.specs.declared.tree.Change.TheVariants as changes
use Rattle.qd_sql_ast.specs.declared.tree.ColumnDef.{ColumnDef}
use Rattle.qd_sql_ast.specs.declared.tree.Create.{Create}
use Rattle.qd_sql_ast.specs.declared.tree.Dedup.{Dedup}
use Rattle.qd_sql_ast.specs.declared.tree.Insert.{Insert}
use Rattle.qd_sql_ast.specs.declared.tree.Tuple.{Tuple}
use Rattle.qd_sql_lexer.specs.Tokens.{Lexeme}
use Rattle.qd_sql_ast.specs.Steps.{Read, ◌>>=◌, if_taken, list, stuck, sees, sign, word, may, want, want_word, name, number, text}

-- ["-"] Number | Text | "TRUE" | "FALSE" | "NULL"
unfoldable pub lit : List Lexeme → Read Lit
lit ts =
    if_taken (sign sign_kind.Minus ts) (λ x. number x.1 >>= λ n. Ok (literal.Minus x.0 n.0, n.1))
    (if_taken (word (codes "TRUE") ts) (λ x. Ok (literal.True x.0, x.1))
    (if_taken (word (codes "FALSE") ts) (λ x. Ok (literal.False x.0, x.1))
    (if_taken (word (codes "NULL") ts) (λ x. Ok (literal.Null x.0, x.1))
    (if sees sign_kind.Text ts then (text ts >>= λ t. Ok (literal.Text t.0, t.1))
    else (number ts >>= λ n. Ok (literal.Number n.0, n.1))))))

-- name {"," name}
unfoldable pub names : List Lexeme → Read (List Name)
names ts = list name ts

-- lit {"," lit}
unfoldable pub lits : List Lexeme → Read (List Lit)
lits ts = list lit ts

-- name {"," name} ")"
unfoldable pub names_to_bracket : List Lexeme → Read (List Name)
names_to_bracket ts = do
  found ← names ts
  close ← want sign_kind.Close found.1
  Ok (found.0, close.1)

-- "LONG" | "BOOLEAN" | "SYMBOL" | "VARCHAR" | "TIMESTAMP"
unfoldable pub kind : List Lexeme → Read ColType
kind ts =
    if_taken (word (codes "LONG") ts) (λ x. Ok (type.Long, x.1))
    (if_taken (word (codes "BOOLEAN") ts) (λ x. Ok (type.Bool, x.1))
    (if_taken (word (codes "SYMBOL") ts) (λ x. Ok (type.Symbol, x.1))
    (if_taken (word (codes "VARCHAR") ts) (λ x. Ok (type.Varchar, x.1))
    (if_taken (word (codes "TIMESTAMP") ts) (λ x. Ok (type.Time, x.1))
    (Err (stuck ts))))))

-- name kind
unfoldable pub column : List Lexeme → Read ColumnDef
column ts = do
  called ← name ts
  found ← kind called.1
  Ok (record { name = called.0; kind = found.0 }, found.1)

-- column {"," column}
unfoldable pub columns : List Lexeme → Read (List ColumnDef)
columns ts = list column ts

-- "HOUR" | "DAY" | "MONTH" | "YEAR"
unfoldable pub unit : List Lexeme → Read PartUnit
unit ts =
    if_taken (word (codes "HOUR") ts) (λ x. Ok (part.Hour, x.1))
    (if_taken (word (codes "DAY") ts) (λ x. Ok (part.Day, x.1))
    (if_taken (word (codes "MONTH") ts) (λ x. Ok (part.Month, x.1))
    (if_taken (word (codes "YEAR") ts) (λ x. Ok (part.Year, x.1))
    (Err (stuck ts)))))

-- "UPSERT" "KEYS" "(" name {"," name} ")"
unfoldable pub keys : List Lexeme → Read Dedup
keys ts = do
  upsert ← want_word (codes "UPSERT") ts
  word ← want_word (codes "KEYS") upsert.1
  open_bracket ← want sign_kind.Open word.1
  found ← names_to_bracket open_bracket.1
  Ok (record { at = word.0; keys = found.0 }, found.1)

-- ["DEDUP" keys]
unfoldable pub dedup : List Lexeme → Read (Option Dedup)
dedup ts = if_taken (word (codes "DEDUP") ts) (λ x. keys x.1 >>= λ found. Ok (Some found.0, found.1)) (Ok (None, ts))

-- "(" column {"," column} ")" "TIMESTAMP" "(" name ")"
unfoldable pub table_columns : List Lexeme → Read (List ColumnDef × Name)
table_columns ts = do
  open_bracket ← want sign_kind.Open ts
  found ← columns open_bracket.1
  close ← want sign_kind.Close found.1
  timestamp ← want_word (codes "TIMESTAMP") close.1
  second ← want sign_kind.Open timestamp.1
  time ← name second.1
  last ← want sign_kind.Close time.1
  Ok ((found.0, time.0), last.1)

-- "TABLE" name table_columns "PARTITION" "BY" unit ["WAL"] [dedup]
unfoldable pub create : List Lexeme → Read Create
create ts = do
  first ← want_word (codes "TABLE") ts
  table ← name first.1
  found ← table_columns table.1
  partition ← want_word (codes "PARTITION") found.1
  by_word ← want_word (codes "BY") partition.1
  partitions ← unit by_word.1
  dedup_keys ← dedup (may (codes "WAL") partitions.1).1
  Ok (
    record {
      table = table.0;
      columns = found.0.0;
      time = found.0.1;
      unit = partitions.0;
      wal = (may (codes "WAL") partitions.1).0;
      dedup = dedup_keys.0;
    },
    dedup_keys.1,
  )

-- ["(" name {"," name} ")"]
unfoldable pub listed : List Lexeme → Read (Option (List Name))
listed ts = if_taken (sign sign_kind.Open ts) (λ x. names_to_bracket x.1 >>= λ found. Ok (Some found.0, found.1)) (Ok (None, ts))

-- "(" lit {"," lit} ")"
unfoldable pub tuple : List Lexeme → Read Tuple
tuple ts = do
  open_bracket ← want sign_kind.Open ts
  found ← lits open_bracket.1
  close ← want sign_kind.Close found.1
  Ok (record { at = open_bracket.0; lits = found.0 }, close.1)

-- tuple {"," tuple}
unfoldable pub tuples : List Lexeme → Read (List Tuple)
tuples ts = list tuple ts

-- "INTO" name listed "VALUES" tuples
unfoldable pub insert : List Lexeme → Read Insert
insert ts = do
  into ← want_word (codes "INTO") ts
  table ← name into.1
  named ← listed table.1
  values ← want_word (codes "VALUES") named.1
  rows ← tuples values.1
  Ok (record { table = table.0; columns = named.0; tuples = rows.0 }, rows.1)

-- "COLUMN" column
unfoldable pub added : List Lexeme → Read Change
added ts = do
  word ← want_word (codes "COLUMN") ts
  found ← column word.1
  Ok (changes.AddColumn found.0, found.1)

-- "ENABLE" keys | "DISABLE"
unfoldable pub dedup_change : List Lexeme → Read Change
dedup_change ts =
    if_taken (word (codes "ENABLE") ts) (λ x. keys x.1 >>= λ found. Ok (changes.EnableDedup found.0, found.1))
    (want_word (codes "DISABLE") ts >>= λ x. Ok (changes.DisableDedup, x.1))

-- "ADD" added | "DEDUP" dedup_change
unfoldable pub change : List Lexeme → Read Change
change ts = if_taken (word (codes "ADD") ts) (λ x. added x.1) (want_word (codes "DEDUP") ts >>= λ x. dedup_change x.1)

-- name change
unfoldable pub alter : List Lexeme → Read Alter
alter ts = do
  table ← name ts
  found ← change table.1
  Ok (record { table = table.0; change = found.0 }, found.1)

-- "PARTITIONS" "FROM" name
unfoldable pub show : List Lexeme → Read Name
show ts = do
  partitions ← want_word (codes "PARTITIONS") ts
  from ← want_word (codes "FROM") partitions.1
  name from.1
