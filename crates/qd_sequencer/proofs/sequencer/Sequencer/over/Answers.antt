use Rattle.std.proofs.Common.{◌-◌, ◌^◌, ◌<◌, Err, IfSome, ap, drop, length, refl, subst, sym, take, ◌∙◌}
use Rattle.std.proofs.lemmas.List.{take_rest}
use Rattle.std.proofs.lemmas.List.Elements.{All-drop, All-take}
use Rattle.std.proofs.lemmas.Result.{err_from_is_err_and}
use Rattle.qd_base.specs.declared.part.WalRef.{WalRef}
use Rattle.qd_durable.specs.declared.fault.LogFault.{LogFault}
use Rattle.qd_sequencer.specs.Reading.{IsTakenOver}
use Rattle.qd_sequencer.specs.Sequences.{Sequence}
use Rattle.qd_sequencer.proofs.ReadLemmas.{not_taken_told, taken_told}
use Rattle.qd_sequencer.proofs.WriterLemmas.{none_kept_at}
use Rattle.qd_sequencer.proofs.sequencer.Sequencer.over.Goals as goal

pub returns-in_err-follow_all-clause-told : goal.returns-in_err-follow_all-clause-told
returns-in_err-follow_all-clause-told g c =
    let p = err_from_is_err_and c.from_residual.result c.from_residual.ensures.1 in
    let old = (g.V.Volume.storage c.args.volume.now).disk in
    rw p.1 (subst (λ (f : LogFault). IfSome old (IsTakenOver (Err f) c.args.log.refs c.args.n c.args.schemas)) (sym p.2)
    (not_taken_told (Unit {0}) c.args.log.refs (take (length c.refs.result.now - c.args.n) (drop c.args.n c.refs.result.now)) c.args.n c.args.schemas c.follow_all.new.schemas (take_rest c.refs.result.now c.args.n ∙ ap (drop c.args.n) c.refs.ensures.list) c.in_err-follow_all.field-0.0 old c.in_err-follow_all.ensures.told))

pub invariant_of-result : goal.invariant_of-result
invariant_of-result g c = (c.in_ok-follow_all.ensures.sound, none_kept_at _ c.new.result.items c.new.ensures.items)

pub returns-clause-told : goal.returns-clause-told
returns-clause-told g c =
    let s : Sequence = record { refs = c.args.log.refs; spare = c.args.log.spare; pending = c.args.log.pending; schemas = c.follow_all.new.schemas; writers = c.new.result.items } in
    taken_told (Unit {0}) c.args.log.refs (take (length c.refs.result.now - c.args.n) (drop c.args.n c.refs.result.now)) c.args.n c.args.schemas c.follow_all.new.schemas (take_rest c.refs.result.now c.args.n ∙ ap (drop c.args.n) c.refs.ensures.list) c.in_ok-follow_all.field-0 s (g.V.Volume.storage c.args.volume.now).disk refl c.requires.clean refl c.new.ensures.items c.in_ok-follow_all.ensures.told

pub follow_all-requires-clause-segments : goal.follow_all-requires-clause-segments
follow_all-requires-clause-segments g c =
    let refs = c.refs.result.now in
    let P : WalRef → Type 0 = λ ref. ref.segment < 2 ^ 24 in
    All-take P (length refs - c.args.n) (drop c.args.n refs) (All-drop P c.args.n refs c.refs.ensures.segments)
