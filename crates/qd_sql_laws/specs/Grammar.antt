-- The grammar of a whole text, and how far a list of tokens goes by it.
use Rattle.std.specs.Prelude.{ℕ, zero, suc, ◌+◌, List, ◌++◌}
use Rattle.qd_sql_lexer.specs.declared.token.Kind.TheVariants as kind
use Rattle.qd_sql_ast.specs.declared.tree.Expr.{Expr}
use Rattle.qd_sql_ast.specs.declared.tree.Stmt.{Stmt}
use Rattle.qd_sql_ast.specs.declared.tree.Stmt.TheVariants as is
use Rattle.qd_base.specs.declared.limits.TheConstants.{MAX_NESTING}
use Rattle.qd_sql_lexer.specs.Tokens.{Lexeme}
use Rattle.qd_sql_laws.specs.Parts.{◌⋅◌, Perhaps, Sign}
use Rattle.qd_sql_laws.specs.WriteRules.{IsAlter, IsCreate, IsInsert, IsShow}
use Rattle.qd_sql_laws.specs.ExprRules.{IsExpr}
use Rattle.qd_sql_laws.specs.QueryRules.{IsQuery}

-- an expression whose brackets nest less deep than a number
unfoldable pub Nests : ℕ → Expr → List Lexeme → Type 0
Nests zero e ts = ⊥
Nests (suc depth) e ts = IsExpr (Nests depth) e ts

-- an expression whose brackets nest to any depth
abbrev pub NestsAnyhow : Expr → List Lexeme → Type 0
NestsAnyhow e ts = (depth : ℕ) × Nests depth e ts

-- statement = query | create | insert | alter | "SHOW" "PARTITIONS" "FROM" name
abbrev pub IsStmt : (Expr → List Lexeme → Type 0) → Stmt → List Lexeme → Type 0
IsStmt Inner (is.Query q) = IsQuery Inner q
IsStmt Inner (is.Create c) = IsCreate c
IsStmt Inner (is.Insert i) = IsInsert i
IsStmt Inner (is.Alter a) = IsAlter a
IsStmt Inner (is.Show text at) = IsShow (record { at = at; text = text })

-- text = statement [";"]
abbrev pub IsSqlText : (Expr → List Lexeme → Type 0) → Stmt → List Lexeme → Type 0
IsSqlText Inner s = IsStmt Inner s ⋅ Perhaps (Sign kind.Semicolon)

-- these tokens are this statement
abbrev pub ReadsSql : List Lexeme → Stmt → Type 0
ReadsSql ts s = IsSqlText NestsAnyhow s ts

-- and its brackets nest no deeper than the limit
abbrev pub ReadsShallowSql : List Lexeme → Stmt → Type 0
ReadsShallowSql ts s = IsSqlText (Nests (MAX_NESTING + 1)) s ts

-- some tokens behind these make a statement
abbrev pub CanGoOn : List Lexeme → Type 0
CanGoOn ts = (more : List Lexeme) × (s : Stmt) × ReadsSql (ts ++ more) s

-- and one whose brackets nest no deeper than the limit
abbrev pub CanGoOnShallow : List Lexeme → Type 0
CanGoOnShallow ts = (more : List Lexeme) × (s : Stmt) × ReadsShallowSql (ts ++ more) s
