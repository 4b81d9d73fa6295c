use Rattle.std.proofs.Common.{arith}
use Rattle.qd_column_format.proofs.DictionaryLemmas.{front_pushed}
use Rattle.qd_column_format.proofs.dictionary.size_before.Goals as goal

pub loop-id-preserved : goal.loop-id-preserved
loop-id-preserved g c =
    let texts = g.D.Dictionary.texts c.args.dictionary.now in
    omega (arith, c.loop-id.invariant, front_pushed texts c.loop-id.id c.text_of.result.now (omega arith) c.text_of.ensures.text)
