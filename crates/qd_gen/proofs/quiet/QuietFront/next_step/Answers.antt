use Rattle.qd_gen.proofs.QuietLemmas.{takes_if_ok}
use Rattle.qd_gen.proofs.quiet.QuietFront.next_step.Goals as goal

pub returns-clause-step : goal.returns-clause-step
returns-clause-step g c = takes_if_ok (g.F.Front.protocol c.args.self.now.front) (g.F.Front.protocol c.next_step.new.self) c.next_step.result c.next_step.ensures.step
