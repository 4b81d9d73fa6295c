use Rattle.std.proofs.Common.{refl, subst}
use Rattle.qd_durable.specs.Moments.{Told}
use Rattle.qd_sequencer.specs.Calls.{Settles}
use Rattle.qd_sequencer.specs.Sequences.{Sequence}
use Rattle.qd_sequencer.proofs.CommitLemmas.{settles_told}
use Rattle.qd_sequencer.proofs.sequencer.Sequencer.repair.Goals as goal

pub returns-clause-told : goal.returns-clause-told
returns-clause-told g c =
    let old = (g.V.Volume.storage c.args.volume.now).disk in
    let now = (g.V.Volume.storage c.repair.new.volume).disk in
    let inside = c.self.inside in
    let before : Sequence = record { refs = inside.log.refs; spare = inside.log.spare; pending = inside.log.pending; schemas = inside.schemas; writers = inside.writers.items } in
    let after : Sequence = record { refs = c.repair.new.self.refs; spare = c.repair.new.self.spare; pending = c.repair.new.self.pending; schemas = inside.schemas; writers = inside.writers.items } in
    subst (λ (s : Sequence). Told old now (Settles s after)) c.self.view_is
    (settles_told before after old now c.repair.result (record { refs = c.repair.ensures.list; schemas = refl; writers = refl }) c.repair.ensures.clean c.repair.ensures.stays c.repair.ensures.told)
