use Rattle.std.proofs.Common.{◌∙◌, ◌++◌, ap, sym, arith}
use Rattle.qd_column_format.specs.Spelling.{stored_text}
use Rattle.qd_column_format.proofs.DictionaryLemmas.{part_pushed}
use Rattle.qd_column_format.proofs.dictionary.encode_from.Goals as goal

pub loop-id-preserved : goal.loop-id-preserved
loop-id-preserved g c =
    let texts = g.D.Dictionary.texts c.args.dictionary.now in
    c.in_ok-push_text.ensures.bytes ∙ ap (λ l. l ++ stored_text c.text_of.result.now) c.loop-id.invariant ∙ sym (part_pushed texts c.args.k c.loop-id.id c.text_of.result.now (omega (arith, c.loop-id.auto.id)) (omega (arith, c.len-id-end.ensures.count)) c.text_of.ensures.text)
