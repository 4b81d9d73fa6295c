use Rattle.std.proofs.Common.{◌≡◌, ◌-◌, ℕ, List, Option}
use Rattle.qd_sql_lexer.specs.Tokens.{Lexeme}
use Rattle.qd_sql_ast.specs.Steps.{offsets, offsets_from}
use Rattle.qd_sql_ast.specs.Lists.{TakesBy}
use Rattle.qd_sql_ast.proofs.lists.offsets.Given as goal

abbrev pub invariant-loop-turn : goal.invariant-loop-turn
invariant-loop-turn g l =
    record {
      callable : goal.F-IsAlwaysCallable g l.one;
      taken : (rule : List Lexeme → Option (ℕ × List Lexeme)) → TakesBy rule (goal.F-post g l.one) → offsets rule l.fn.tokens ≡ offsets_from rule (l._turn-end - l._turn) l.found l.tokens;
    }
