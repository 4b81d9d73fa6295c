use Rattle.std.proofs.Common.{◌∷◌, ◌++◌, [], length, ◌<◌, sym, ap, subst}
use Rattle.qd_server.specs.declared.maker.TheConstants.{MOST}
use Rattle.qd_server.specs.Works.{with_work, back}
use Rattle.qd_server.proofs.Serving.{serves_back}
use Rattle.qd_server.proofs.accept.admit.Goals as goal

pub returns-in-Err-clause-goes_on : goal.returns-in-Err-clause-goes_on
returns-in-Err-clause-goes_on g c s here =
    let few = subst (λ xs. length xs < MOST) (sym here.1) c.requires.few in
    let made = c.in_ok-work.ensures.made s here.0 few in (
      back (with_work s c.args.wire c.in_ok-work.work) s.out c.in-Err.work,
      (c.refused.ensures.back (with_work s c.args.wire c.in_ok-work.work) s.out made (ap (λ w. s.out ++ w ∷ []) (sym c.in-Err.ensures.back)), here.1),
      serves_back s c.args.wire c.in_ok-work.work c.in-Err.work s.out c.args.threads.now.failed c.start.new.self.failed (ap (λ t. t.failed) c.in-Err.ensures.counted),
    )
