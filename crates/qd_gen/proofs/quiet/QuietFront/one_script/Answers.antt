use Rattle.qd_gen.proofs.QuietLemmas.{some_script}
use Rattle.qd_gen.proofs.quiet.QuietFront.one_script.Goals as goal

pub returns-clause-some : goal.returns-clause-some
returns-clause-some g c = some_script (g.F.Front.protocol c.args.self.now.front) c.one_script.ensures.some
