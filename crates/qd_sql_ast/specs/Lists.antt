-- Function values that read, or take, by a rule.
use Rattle.std.specs.Prelude.{List, Option, Result}
use Rattle.std.specs.declared.alloc.Global.{Global}
use denote.Ref.{MutBor}
use Rattle.qd_sql_lexer.specs.Tokens.{Lexeme}
use Rattle.qd_sql_ast.specs.declared.stop.Stop.{Stop}
use Rattle.qd_sql_ast.specs.Steps.{Read, Reads, Takes}

pub record ReadsBy {A : Type 0} (rule : List Lexeme → Read A)
    (post : Global → MutBor (List Lexeme) → Result A Stop → MutBor (List Lexeme) → Type 0) : Type 0 where
  pub reads : (alloc : Global) (old new : MutBor (List Lexeme)) (r : Result A Stop) → post alloc old r new → Reads (rule old.now) r new.now

pub record TakesBy {A : Type 0} (rule : List Lexeme → Option (A × List Lexeme))
    (post : MutBor (List Lexeme) → Option A → MutBor (List Lexeme) → Type 0) : Type 0 where
  pub takes : (old new : MutBor (List Lexeme)) (r : Option A) → post old r new → Takes r (rule old.now) old.now new.now
