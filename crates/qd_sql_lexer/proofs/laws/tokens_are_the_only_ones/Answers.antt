use Rattle.qd_sql_lexer.specs.Tokens.{tokens}
use Rattle.qd_sql_lexer.proofs.Pieces.{only_from}
use Rattle.qd_sql_lexer.proofs.laws.tokens_are_the_only_ones.Goals as goal

pub returns : goal.returns
unfolding tokens
returns c = record { law = λ text ts (lens, cuts). only_from lens 0 text ts cuts }
