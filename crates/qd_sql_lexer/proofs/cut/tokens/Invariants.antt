use Rattle.std.proofs.Common.{◌≡◌, ◌-◌, ◌≤◌, ◌++◌, length, drop, map}
use Rattle.qd_sql_lexer.specs.Tokens.{seen, tokens, tokens_from}
use Rattle.qd_sql_lexer.proofs.cut.tokens.Given as goal

-- the tokens so far, and those of what is left
abbrev pub invariant-loop-at : goal.invariant-loop-at
invariant-loop-at l = record { found : map seen l.found.items ++ tokens_from 0 l.at (drop l.at l.text) ≡ tokens l.text; within : l.at ≤ length l.text }

abbrev pub decreases-loop-at : goal.decreases-loop-at
decreases-loop-at l = length l.text - l.at
