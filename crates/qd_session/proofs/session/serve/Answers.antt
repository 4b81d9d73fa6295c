use Rattle.std.proofs.Common.{◌∙◌, Some, length, refl, arith}
use Rattle.std.proofs.lemmas.List.{length-append, length-take}
use Rattle.qd_session.specs.Session.{moment}
use Rattle.qd_session.proofs.ProgressLemmas.{reached_start, reached_step, reached_stop, served_nothing, stop_grows}
use Rattle.qd_session.proofs.RunLemmas.{extends-here}
use Rattle.qd_session.proofs.WireLemmas.{faults-later}
use Rattle.qd_session.proofs.session.serve.Goals as goal

pub returns-in_default-clause-served : goal.returns-in_default-clause-served
returns-in_default-clause-served g c = served_nothing g.B.Backend.rule (moment (g.F.Front.protocol c.args.front.now) (g.B.Backend.shown c.args.back.now) (g.W.Ends.stream c.args.wire.now) (g.C.Clock.timeline c.args.clock.now)) c.keeps_to_its_rule.ensures.lasting c.is_counted.ensures.counted

pub returns-in_default-clause-history : goal.returns-in_default-clause-history
returns-in_default-clause-history g c = extends-here _

pub steps-init : goal.steps-init
steps-init g c = record {
  reached = reached_start g.B.Backend.rule _;
  few = omega arith;
  room = omega (arith, c.in-Ok.ensures.len);
  faults = record { reads = refl; writes = refl; input_lent = refl; output_lent = refl };
  fixed = refl;
}

pub returns-in-Some-clause-served : goal.returns-in-Some-clause-served
returns-in-Some-clause-served g c =
    reached_stop g.B.Backend.rule _ _ _ _ c.take_step.ensures.lasting c.take_step.ensures.counted c.steps.invariant.reached c.is_counted-in-Some.ensures.counted c.steps.invariant.few c.in-Some.ended c.in-Some.ensures.step

pub returns-in-Some-clause-history : goal.returns-in-Some-clause-history
returns-in-Some-clause-history g c =
    stop_grows g.B.Backend.rule _ _ _ _ c.take_step.ensures.lasting c.take_step.ensures.counted c.steps.invariant.reached c.in-Some.ended c.in-Some.ensures.step

pub returns-in-Some-clause-faults : goal.returns-in-Some-clause-faults
returns-in-Some-clause-faults g c = faults-later _ _ _ (Some c.in-Some.ended) c.steps.invariant.faults c.in-Some.ensures.faults

pub returns-in-Some-clause-fixed : goal.returns-in-Some-clause-fixed
returns-in-Some-clause-fixed g c = c.take_step.ensures.fixed ∙ c.steps.invariant.fixed

pub steps-smaller : goal.steps-smaller
steps-smaller g c = c.in-None.ensures.nearer refl

pub steps-preserved : goal.steps-preserved
steps-preserved g c = record {
  reached = reached_step g.B.Backend.rule _ _ _ _ c.take_step.ensures.lasting c.take_step.ensures.counted c.steps.invariant.reached _ c.in-None.ensures.step;
  few = c.take_step.ensures.most;
  room = simp (length-take, length-append) (omega (arith, c.take_step.auto.buffer, c.deref_mut.ensures.len, c.steps.invariant.room, c.steps.buffer.ok.0));
  faults = faults-later _ _ _ _ c.steps.invariant.faults c.in-None.ensures.faults;
  fixed = c.take_step.ensures.fixed ∙ c.steps.invariant.fixed;
}
