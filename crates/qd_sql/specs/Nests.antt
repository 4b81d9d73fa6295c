-- A function value that reads expressions whose brackets nest less deep than a number.
use Rattle.std.specs.Prelude.{ℕ, List, Result}
use Rattle.std.specs.declared.alloc.Global.{Global}
use denote.Ref.{MutBor}
use Rattle.qd_sql_ast.specs.declared.tree.Expr.{Expr}
use Rattle.qd_sql_ast.specs.declared.stop.Stop.{Stop}
use Rattle.qd_sql_lexer.specs.Tokens.{Lexeme}
use Rattle.qd_sql_ast.specs.Steps.{Reads}
use Rattle.qd_sql.specs.Exprs.{expr}

pub record Nests (depth : ℕ) (pre : Global → MutBor (List Lexeme) → ℕ → Type 0)
    (post : Global → MutBor (List Lexeme) → ℕ → Result Expr Stop → MutBor (List Lexeme) → Type 0) : Type 0 where
  pub callable : (alloc : Global) (old : MutBor (List Lexeme)) → pre alloc old depth
  pub reads : (alloc : Global) (old new : MutBor (List Lexeme)) (r : Result Expr Stop) → post alloc old depth r new → Reads (expr depth old.now) r new.now
