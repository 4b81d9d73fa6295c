use Rattle.std.proofs.Common.{◌≡◌, ◌-◌, List}
use Rattle.qd_sql_lexer.specs.Tokens.{Lexeme}
use Rattle.qd_sql_ast.specs.Steps.{Read, list, list_from}
use Rattle.qd_sql_ast.specs.Lists.{ReadsBy}
use Rattle.qd_sql_ast.proofs.lists.list.Given as goal

abbrev pub invariant-loop-turn : goal.invariant-loop-turn
invariant-loop-turn g l =
    record {
      callable : goal.F-IsAlwaysCallable g l.item;
      read : (rule : List Lexeme → Read g.row.T.Denot) → ReadsBy rule (goal.F-post g l.item) → list rule l.fn.tokens ≡ list_from rule (l._turn-end - l._turn) l.found l.tokens;
    }
