-- The kinds of statements: those that write, and those that ask.
use Rattle.qd_sql_ast.specs.declared.tree.Stmt.{Stmt}
use Rattle.qd_sql_ast.specs.declared.tree.Stmt.TheVariants as is

-- CREATE TABLE, INSERT or ALTER TABLE
abbrev pub IsWrite : Stmt → Type 0
IsWrite (is.Create c) = Unit {0}
IsWrite (is.Insert i) = Unit {0}
IsWrite (is.Alter a) = Unit {0}
IsWrite (is.Query q) = ⊥
IsWrite (is.Show name place) = ⊥

-- a query, or SHOW
abbrev pub IsQuestion : Stmt → Type 0
IsQuestion (is.Query q) = Unit {0}
IsQuestion (is.Show name place) = Unit {0}
IsQuestion (is.Create c) = ⊥
IsQuestion (is.Insert i) = ⊥
IsQuestion (is.Alter a) = ⊥
