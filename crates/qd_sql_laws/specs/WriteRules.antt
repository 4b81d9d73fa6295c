-- The rules of statements that write, and of SHOW.
use Rattle.std.specs.Prelude.{List, codes}
use Rattle.qd_base.specs.declared.schema.ColType.{ColType}
use Rattle.qd_base.specs.declared.schema.ColType.TheVariants as type
use Rattle.qd_base.specs.declared.schema.PartUnit.{PartUnit}
use Rattle.qd_base.specs.declared.schema.PartUnit.TheVariants as part
use Rattle.qd_sql_lexer.specs.declared.token.Kind.TheVariants as kind
use Rattle.qd_sql_ast.specs.declared.tree.Name.{Name}
use Rattle.qd_sql_ast.specs.declared.tree.Lit.{Lit}
use Rattle.qd_sql_ast.specs.declared.tree.Lit.TheVariants as literal
use Rattle.qd_sql_ast.specs.declared.tree.Alter.{Alter}
use Rattle.qd_sql_ast.specs.declared.tree.Change.{Change}
use Rattle.qd_sql_ast.specs.declared.tree.Change.TheVariants as changes
use Rattle.qd_sql_ast.specs.declared.tree.ColumnDef.{ColumnDef}
use Rattle.qd_sql_ast.specs.declared.tree.Create.{Create}
use Rattle.qd_sql_ast.specs.declared.tree.Dedup.{Dedup}
use Rattle.qd_sql_ast.specs.declared.tree.Insert.{Insert}
use Rattle.qd_sql_ast.specs.declared.tree.Tuple.{Tuple}
use Rattle.qd_sql_lexer.specs.Tokens.{Lexeme}
use Rattle.qd_sql_laws.specs.Parts.{◌⋅◌, Optional, Commas, Sign, SignAt, Word, WordAt, IsName, IsNumber, IsText}

-- "(" name {"," name} ")"
abbrev pub Names : List Name → List Lexeme → Type 0
Names ns = Sign kind.Open ⋅ Commas IsName ns ⋅ Sign kind.Close

-- kind = "LONG" | "BOOLEAN" | "SYMBOL" | "VARCHAR" | "TIMESTAMP"
abbrev pub IsKind : ColType → List Lexeme → Type 0
IsKind type.Long = Word (codes "LONG")
IsKind type.Bool = Word (codes "BOOLEAN")
IsKind type.Symbol = Word (codes "SYMBOL")
IsKind type.Varchar = Word (codes "VARCHAR")
IsKind type.Time = Word (codes "TIMESTAMP")

-- name kind
abbrev pub IsColumnDef : ColumnDef → List Lexeme → Type 0
IsColumnDef c = IsName c.name ⋅ IsKind c.kind

-- "HOUR" | "DAY" | "MONTH" | "YEAR"
abbrev pub IsUnit : PartUnit → List Lexeme → Type 0
IsUnit part.Hour = Word (codes "HOUR")
IsUnit part.Day = Word (codes "DAY")
IsUnit part.Month = Word (codes "MONTH")
IsUnit part.Year = Word (codes "YEAR")

-- "DEDUP" "UPSERT" "KEYS" "(" name {"," name} ")"
abbrev pub IsDedup : Dedup → List Lexeme → Type 0
IsDedup d = Word (codes "DEDUP") ⋅ Word (codes "UPSERT") ⋅ WordAt (codes "KEYS") d.at ⋅ Names d.keys

-- create = "CREATE" "TABLE" name "(" name kind {"," name kind} ")" "TIMESTAMP" "(" name ")"
--          "PARTITION" "BY" ("HOUR"|"DAY"|"MONTH"|"YEAR") ["WAL"]
--          ["DEDUP" "UPSERT" "KEYS" "(" name {"," name} ")"]
abbrev pub IsCreate : Create → List Lexeme → Type 0
IsCreate c =
    Word (codes "CREATE") ⋅ Word (codes "TABLE") ⋅ IsName c.table ⋅ Sign kind.Open ⋅ Commas IsColumnDef c.columns ⋅ Sign kind.Close
    ⋅ Word (codes "TIMESTAMP") ⋅ Sign kind.Open ⋅ IsName c.time ⋅ Sign kind.Close
    ⋅ Word (codes "PARTITION") ⋅ Word (codes "BY") ⋅ IsUnit c.unit ⋅ Optional (WordAt (codes "WAL")) c.wal ⋅ Optional IsDedup c.dedup

-- lit = ["-"] Number | Text | "TRUE" | "FALSE" | "NULL"
abbrev pub IsLit : Lit → List Lexeme → Type 0
IsLit (literal.Number n) = IsNumber n
IsLit (literal.Minus at n) = SignAt kind.Minus at ⋅ IsNumber n
IsLit (literal.Text t) = IsText t
IsLit (literal.True at) = WordAt (codes "TRUE") at
IsLit (literal.False at) = WordAt (codes "FALSE") at
IsLit (literal.Null at) = WordAt (codes "NULL") at

-- tuple = "(" lit {"," lit} ")"
abbrev pub IsTuple : Tuple → List Lexeme → Type 0
IsTuple t = SignAt kind.Open t.at ⋅ Commas IsLit t.lits ⋅ Sign kind.Close

-- insert = "INSERT" "INTO" name ["(" name {"," name} ")"] "VALUES" tuple {"," tuple}
abbrev pub IsInsert : Insert → List Lexeme → Type 0
IsInsert i =
    Word (codes "INSERT") ⋅ Word (codes "INTO") ⋅ IsName i.table ⋅ Optional Names i.columns ⋅ Word (codes "VALUES") ⋅ Commas IsTuple i.tuples

-- "ADD" "COLUMN" name kind | "DEDUP" "ENABLE" "UPSERT" "KEYS" "(" name {"," name} ")" | "DEDUP" "DISABLE"
abbrev pub IsChange : Change → List Lexeme → Type 0
IsChange (changes.AddColumn c) = Word (codes "ADD") ⋅ Word (codes "COLUMN") ⋅ IsColumnDef c
IsChange (changes.EnableDedup d) = Word (codes "DEDUP") ⋅ Word (codes "ENABLE") ⋅ Word (codes "UPSERT") ⋅ WordAt (codes "KEYS") d.at ⋅ Names d.keys
IsChange changes.DisableDedup = Word (codes "DEDUP") ⋅ Word (codes "DISABLE")

-- alter = "ALTER" "TABLE" name ( "ADD" "COLUMN" name kind
--       | "DEDUP" "ENABLE" "UPSERT" "KEYS" "(" name {"," name} ")" | "DEDUP" "DISABLE" )
abbrev pub IsAlter : Alter → List Lexeme → Type 0
IsAlter a = Word (codes "ALTER") ⋅ Word (codes "TABLE") ⋅ IsName a.table ⋅ IsChange a.change

-- "SHOW" "PARTITIONS" "FROM" name
abbrev pub IsShow : Name → List Lexeme → Type 0
IsShow n = Word (codes "SHOW") ⋅ Word (codes "PARTITIONS") ⋅ Word (codes "FROM") ⋅ IsName n
