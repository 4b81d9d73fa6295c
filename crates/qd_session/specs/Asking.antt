-- What a text of SQL asks for.
use Rattle.std.specs.Prelude.{ℕ, List, Result}
use Rattle.qd_sql_ast.specs.declared.tree.Stmt.{Stmt}
use Rattle.qd_sql.specs.declared.stmt.SqlFault.{SqlFault}
use Rattle.qd_sql.specs.Statement.{statement_of}

-- the statement of a text, or the text's refusal
abbrev pub asks_for : List ℕ → Result Stmt SqlFault
asks_for text = statement_of text
