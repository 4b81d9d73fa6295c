use Rattle.std.proofs.Common.{sym, ◌∙◌, ap, take}
use Rattle.std.proofs.lemmas.Str.{utf8_valid_len-IsUtf8}
use Rattle.std.specs.Str.Lossy.{utf8_valid_len}
use Rattle.qd_sql_lexer.specs.Tokens.{comment}
use Rattle.qd_sql_lexer.proofs.cut.comment.Goals as goal

pub returns-in-Ok-clause-value : goal.returns-in-Ok-clause-value
unfolding comment
returns-in-Ok-clause-value c =
    sym (utf8_valid_len-IsUtf8 (take c.run.result c.args.text.now) c.in-Ok.ensures.cases.1) ∙ ap (λ n. utf8_valid_len (take n c.args.text.now)) c.run.ensures.value
