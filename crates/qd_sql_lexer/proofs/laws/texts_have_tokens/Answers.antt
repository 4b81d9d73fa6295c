use Rattle.std.proofs.Common.{length, arith}
use Rattle.qd_sql_lexer.specs.Tokens.{tokens}
use Rattle.qd_sql_lexer.proofs.Pieces.{each_from}
use Rattle.qd_sql_lexer.proofs.laws.texts_have_tokens.Goals as goal

pub returns : goal.returns
unfolding tokens
returns c = record { law = λ text. each_from (length text) 0 text (omega arith) }
