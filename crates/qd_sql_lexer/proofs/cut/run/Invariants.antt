use Rattle.std.proofs.Common.{◌≡◌, ◌+◌, drop}
use Rattle.std.specs.List.{prefix_len}
use Rattle.qd_sql_lexer.specs.Tokens.{is_in}
use Rattle.qd_sql_lexer.proofs.cut.run.Given as goal

abbrev pub invariant-loop-at : goal.invariant-loop-at
invariant-loop-at l = l.at + prefix_len (is_in l.class) (drop l.at l.text) ≡ prefix_len (is_in l.class) l.text
