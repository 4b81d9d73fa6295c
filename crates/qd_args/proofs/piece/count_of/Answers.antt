use Rattle.qd_args.proofs.Spelling.{count_text, none_of}
use Rattle.qd_args.proofs.piece.count_of.Goals as goal

pub returns-in_err-plain_text : goal.returns-in_err-plain_text
returns-in_err-plain_text c =
    none_of c.from_residual.result _ _ c.from_residual.ensures (λ n is. c.in_err-plain_text.ensures (count_text n c.args.word.now is))
