use Rattle.std.proofs.Common.{Ok, inr, refl}
use Rattle.qd_base.specs.declared.request.Request.TheVariants as request
use Rattle.qd_session.specs.Timing.{want_of_memory}
use Rattle.qd_session.proofs.HandledLemmas.{handled_as, handled_by, handled_unread}
use Rattle.qd_session.proofs.session.handle_batch.Goals as goal

pub returns-in_default-clause-handled : goal.returns-in_default-clause-handled
returns-in_default-clause-handled g c =
    handled_as g.B.Backend.rule _ _ _ _ _ _ _ want_of_memory refl c.refuse_for_memory.ensures.reply
    (handled_unread g.B.Backend.rule (g.B.Backend.shown c.args.back.now) _ _ c.args.text.now c.keeps_to_its_rule.ensures.memory refl)

pub returns-in-Ok-lines-clause-handled : goal.returns-in-Ok-lines-clause-handled
returns-in-Ok-lines-clause-handled g c =
    let reads = c.in-Ok.ensures.reading in
    handled_by g.B.Backend.rule _ _ (g.C.Clock.timeline c.args.clock.now) (g.C.Clock.timeline c.time_for.new.clock) c.in-Ok-time_for.now (request.Write c.args.text.now) c.in-Ok-lines.given
    (inr (c.in-Ok.batch, reads, Ok c.in-Ok-time_for.now, c.in-Ok-time_for.ensures.time, refl))
    (c.in-Ok-lines.ensures.handled c.args.text.now reads)

pub returns-in-Ok-time_for-clause-handled : goal.returns-in-Ok-time_for-clause-handled
returns-in-Ok-time_for-clause-handled g c =
    let reads = c.in-Ok.ensures.reading in
    handled_as g.B.Backend.rule _ _ _ _ _ _ _ want_of_memory refl c.refuse_for_memory-in-Err.ensures.reply
    (handled_by g.B.Backend.rule _ _ (g.C.Clock.timeline c.args.clock.now) (g.C.Clock.timeline c.time_for.new.clock) c.in-Ok-time_for.now (request.Write c.args.text.now) want_of_memory
    (inr (c.in-Ok.batch, reads, Ok c.in-Ok-time_for.now, c.in-Ok-time_for.ensures.time, refl))
    (c.in-Err.ensures.handled c.args.text.now reads))
