use Rattle.std.proofs.Common.{rules}
use Rattle.qd_latest.proofs.TextLemmas.{first_met_more}
use Rattle.qd_latest.proofs.walk.unmet_of.Goals as goal

pub loop-id-preserved : goal.loop-id-preserved
loop-id-preserved g c = first_met_more (g.D.Dictionary.texts c.args.dictionary.now) (g.D.Dictionary.texts c.args.met.now) c.loop-id.id c.text_of.result.now c.id_of.result c.loop-id.invariant c.text_of.ensures.text c.id_of.ensures.id (search rules)
