use Rattle.std.proofs.Common.{refl, ap, subst}
use Rattle.qd_http.specs.Reading.{IsAt, IsOverfull, is_closing}
use Rattle.qd_http.proofs.ReaderLemmas.{overfull_ends, overfull_waits}
use Rattle.qd_http.proofs.TakenLemmas.{waiting_step}
use Rattle.qd_http.proofs.reader.Reader.next_step.Goals as goal

pub returns-in-Overfull-clause-exact : goal.returns-in-Overfull-clause-exact
returns-in-Overfull-clause-exact c before =
    let reader = c.args.self.now in
    let full : IsOverfull reader.queue = subst (λ s. IsAt s reader.queue) c.in-Overfull.is c.requires.at in
    waiting_step reader reader before c.wait.result (ap is_closing c.in-Overfull.is) refl refl (ap is_closing c.in-Overfull.is)
    c.wait.ensures.more c.wait.ensures.bad (overfull_waits reader.queue full) (overfull_ends reader.queue full)
