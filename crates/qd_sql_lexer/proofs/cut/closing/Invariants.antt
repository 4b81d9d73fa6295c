use Rattle.std.proofs.Common.{◌≡◌, ◌+◌, length, false}
use Rattle.qd_sql_lexer.specs.Tokens.{closing}
use Rattle.qd_sql_lexer.proofs.cut.closing.Given as goal

abbrev pub invariant-loop-text : goal.invariant-loop-text
invariant-loop-text l = record { found : closing l.is_second l.count l.text ≡ closing false 0 l.initial.text; within : l.count + length l.text ≡ length l.initial.text }

abbrev pub decreases-loop-text : goal.decreases-loop-text
decreases-loop-text l = length l.text
