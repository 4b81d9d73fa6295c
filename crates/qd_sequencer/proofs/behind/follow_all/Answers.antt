use Rattle.std.proofs.Common.{Err, Result, IfSome, ◌∙◌, subst, sym}
use Rattle.std.proofs.lemmas.Result.{err_from_is_err_and}
use Rattle.qd_base.specs.declared.part.WalRef.{WalRef}
use Rattle.qd_volume.specs.Disk.{reads_of}
use Rattle.qd_durable.specs.declared.fault.LogFault.{LogFault}
use Rattle.qd_sequencer.specs.Reading.{AreFollowed}
use Rattle.qd_sequencer.proofs.ReadLemmas.{followed_broken, followed_whole, leads_next}
use Rattle.qd_sequencer.proofs.behind.follow_all.Goals as goal

pub returns-in_err-follow_next-clause-told : goal.returns-in_err-follow_next-clause-told
returns-in_err-follow_next-clause-told g c =
    let p = err_from_is_err_and c.from_residual.result c.from_residual.ensures.1 in
    let old = (g.V.Volume.storage c.args.volume.now).disk in
    let none : WalRef = record { wal = 0; segment = 0; start = 0; len = 0 } in
    subst (λ (r : Result (Unit {0}) LogFault). IfSome old (λ disk. AreFollowed r c.args.refs.now c.args.schemas.now c.follow_next.new.schemas (reads_of disk))) (sym p.1)
    (subst (λ (f : LogFault). IfSome old (λ disk. AreFollowed {T = Unit {0}} (Err f) c.args.refs.now c.args.schemas.now c.follow_next.new.schemas (reads_of disk))) (sym p.2)
    (followed_broken (Unit {0}) c.args.refs.now c.args.schemas.now c.loop-at.schemas c.loop-at.at-index none c.follow_next.new.schemas c.follow_next.new.schemas old (g.V.Volume.storage c.loop-at.volume).disk c.in_err-follow_next.field-0.0 c.loop-at-test.true c.loop-at.invariant.stays c.loop-at.invariant.leads c.in_err-follow_next.ensures.told))

pub loop-at-preserved : goal.loop-at-preserved
loop-at-preserved g c =
    let none : WalRef = record { wal = 0; segment = 0; start = 0; len = 0 } in
    record {
      sound = c.in_ok-follow_next.ensures.sound;
      stays = c.follow_next.ensures.stays ∙ c.loop-at.invariant.stays;
      counted = c.in_ok-follow_next.ensures.counted ∙ c.loop-at.invariant.counted;
      leads = λ disk e. leads_next (Unit {0}) c.args.refs.now c.args.schemas.now c.loop-at.schemas c.loop-at.at-index none c.follow_next.new.schemas c.in_ok-follow_next.field-0 (g.V.Volume.storage c.loop-at.volume).disk disk c.loop-at-test.true (c.loop-at.invariant.stays ∙ e) (c.loop-at.invariant.leads disk e) c.in_ok-follow_next.ensures.told;
    }

pub returns-clause-told : goal.returns-clause-told
returns-clause-told g c = followed_whole (Unit {0}) c.args.refs.now c.args.schemas.now c.loop-at.schemas c.loop-at.at-index tt (g.V.Volume.storage c.args.volume.now).disk c.loop-at-test.false c.loop-at.invariant.leads
