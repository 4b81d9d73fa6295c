use Rattle.std.proofs.Common.{refl}
use Rattle.qd_base.specs.declared.request.Request.TheVariants as request
use Rattle.qd_session.proofs.HandledLemmas.{handled_as, handled_end}
use Rattle.qd_session.proofs.session.handle.Goals as goal

pub returns-in-End-clause-handled : goal.returns-in-End-clause-handled
returns-in-End-clause-handled g c =
    handled_as g.B.Backend.rule _ _ _ _ _ request.End _ _ c.in-End.is refl
    (handled_end g.B.Backend.rule (g.B.Backend.shown c.args.back.now) (g.C.Clock.timeline c.args.clock.now) c.keeps_to_its_rule.ensures.bye)
