use Rattle.std.proofs.Common.{subst, sym}
use Rattle.qd_args.specs.Plain.{IsPlainText}
use Rattle.qd_args.proofs.Spelling.{no_plain_text, none_of, none_where}
use Rattle.qd_args.proofs.piece.first_piece.Goals as goal

pub returns-in_err-plain_text : goal.returns-in_err-plain_text
returns-in_err-plain_text c =
    none_of c.from_residual-in_err-plain_text.result _ _ c.from_residual-in_err-plain_text.ensures
    (no_plain_text c.args.words.now c.in_ok-word.rest.now c.in_ok-word.word.now c.in_ok-word.ensures.cases.0
    (λ plain. c.in_err-plain_text.ensures (subst IsPlainText (sym c.bytes.ensures.same) plain))
    (none_where c.value_of.result _ _ c.value_of.ensures c.in_default.not-Some) (none_where c.value_of-2.result _ _ c.value_of-2.ensures c.in_default-value_of.not-Some)
    (none_where c.value_of-3.result _ _ c.value_of-3.ensures c.in_default-value_of-2.not-Some))
