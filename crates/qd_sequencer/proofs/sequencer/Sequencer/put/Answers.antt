use Rattle.std.proofs.Common.{◌≡◌, ◌<◌, ℕ, List, length, fold, unwrap_or, None, Ok, Err, refl, sym, ap, ap₂, subst, ◌∙◌}
use Rattle.std.proofs.lemmas.Result.{err_from_is_err_and}
use Rattle.qd_base.specs.declared.op.Entry.{Entry}
use Rattle.qd_base.specs.declared.part.WalRef.{WalRef}
use Rattle.qd_base.specs.Lawful.{AreSchemas}
use Rattle.qd_base.specs.Schemas.{schemas_step}
use Rattle.qd_io.specs.declared.fault.IoFault.{IoFault}
use Rattle.qd_durable.specs.Moments.{Told}
use Rattle.qd_wal_entry.specs.Spelling.{SpellsEntry}
use Rattle.qd_wal.specs.declared.writer.WalWriter.{WalWriter}
use Rattle.qd_sequencer.specs.declared.fault.CommitFault.{CommitFault}
use Rattle.qd_sequencer.specs.declared.fault.Committed.{Committed}
use Rattle.qd_sequencer.specs.Calls.{Accepts}
use Rattle.qd_sequencer.specs.Histories.{IsLawfulOver}
use Rattle.qd_sequencer.specs.Sequences.{AreKept, Sequence, chosen, with_writer, writer_of}
use Rattle.qd_sequencer.proofs.CommitLemmas.{chosen_within, kept_after, put_done_told, put_failed_told, sound_or, still_told}
use Rattle.qd_sequencer.proofs.sequencer.Sequencer.put.Goals as goal
use Rattle.qd_base.specs.declared.limits.TheConstants.{MAX_TXNS}

pub returns-in_err-reserve-clause-told : goal.returns-in_err-reserve-clause-told
returns-in_err-reserve-clause-told g c =
    let p = err_from_is_err_and c.from_residual.result c.from_residual.ensures.1 in
    let old = (g.V.Volume.storage c.args.volume.now).disk in
    let now = (g.V.Volume.storage c.args.volume.now).disk in
    let inside = c.self.inside in
    let before : Sequence = record { refs = inside.log.refs; spare = inside.log.spare; pending = inside.log.pending; schemas = inside.schemas; writers = inside.writers.items } in
    let log = c.reserve.new.self in
    let new : Sequence = record { refs = log.refs; spare = log.spare; pending = log.pending; schemas = inside.schemas; writers = inside.writers.items } in
    rw p.1 (subst (λ (s : Sequence). (e : Entry) → SpellsEntry c.args.bytes.now e → IsLawfulOver s.schemas e → unwrap_or c.args.after s.schemas ≡ fold schemas_step s.schemas e.ops → Told old now (Accepts {T = Committed} {E = CommitFault} (Err p.0) s new (λ x. x ≡ e))) c.self.view_is
    (λ e spells over leaves. still_told Committed CommitFault p.0 before new (λ x. x ≡ e) old (record { refs = c.reserve.ensures.list; schemas = refl; writers = refl }) c.reserve.ensures.pending))

pub returns-in_err-reserve-2-clause-told : goal.returns-in_err-reserve-2-clause-told
returns-in_err-reserve-2-clause-told g c =
    let p = err_from_is_err_and c.from_residual-in_err-reserve-2.result c.from_residual-in_err-reserve-2.ensures.1 in
    let old = (g.V.Volume.storage c.args.volume.now).disk in
    let now = (g.V.Volume.storage c.args.volume.now).disk in
    let inside = c.self.inside in
    let before : Sequence = record { refs = inside.log.refs; spare = inside.log.spare; pending = inside.log.pending; schemas = inside.schemas; writers = inside.writers.items } in
    let log = c.reserve.new.self in
    let new : Sequence = record { refs = log.refs; spare = log.spare; pending = log.pending; schemas = inside.schemas; writers = c.reserve-2.new.self.items } in
    rw p.1 (subst (λ (s : Sequence). (e : Entry) → SpellsEntry c.args.bytes.now e → IsLawfulOver s.schemas e → unwrap_or c.args.after s.schemas ≡ fold schemas_step s.schemas e.ops → Told old now (Accepts {T = Committed} {E = CommitFault} (Err p.0) s new (λ x. x ≡ e))) c.self.view_is
    (λ e spells over leaves. still_told Committed CommitFault p.0 before new (λ x. x ≡ e) old (record { refs = c.reserve.ensures.list; schemas = refl; writers = c.reserve-2.ensures.items }) c.reserve.ensures.pending))

pub enter-requires-clause-wal : goal.enter-requires-clause-wal
enter-requires-clause-wal g c =
    let inside = c.self.inside in
    let before : Sequence = record { refs = inside.log.refs; spare = inside.log.spare; pending = inside.log.pending; schemas = inside.schemas; writers = inside.writers.items } in
    let w_is : c.writer_for-chosen.result ≡ chosen before c.args.writer =
    c.writer_for-chosen.ensures.chosen ∙ ap₂ (λ (ws : List WalWriter) (n : ℕ). writer_of ws n c.args.writer) (c.as_slice.ensures.value ∙ c.reserve-2.ensures.items) (ap length (c.refs.ensures.list ∙ c.reserve.ensures.list)) in
    (chosen_within before c.args.writer c.writer_for-chosen.result c.reserve.new.self.refs c.reserve.ensures.list w_is c.self.invariant.1).0

pub enter-requires-clause-segment : goal.enter-requires-clause-segment
enter-requires-clause-segment g c =
    let inside = c.self.inside in
    let before : Sequence = record { refs = inside.log.refs; spare = inside.log.spare; pending = inside.log.pending; schemas = inside.schemas; writers = inside.writers.items } in
    let w_is : c.writer_for-chosen.result ≡ chosen before c.args.writer =
    c.writer_for-chosen.ensures.chosen ∙ ap₂ (λ (ws : List WalWriter) (n : ℕ). writer_of ws n c.args.writer) (c.as_slice.ensures.value ∙ c.reserve-2.ensures.items) (ap length (c.refs.ensures.list ∙ c.reserve.ensures.list)) in
    (chosen_within before c.args.writer c.writer_for-chosen.result c.reserve.new.self.refs c.reserve.ensures.list w_is c.self.invariant.1).1

pub returns-in_err-at-clause-told : goal.returns-in_err-at-clause-told
returns-in_err-at-clause-told g c =
    let p = err_from_is_err_and c.from_residual-in_err-at.result c.from_residual-in_err-at.ensures.1 in
    let old = (g.V.Volume.storage c.args.volume.now).disk in
    let now = (g.V.Volume.storage c.enter.new.volume).disk in
    let inside = c.self.inside in
    let before : Sequence = record { refs = inside.log.refs; spare = inside.log.spare; pending = inside.log.pending; schemas = inside.schemas; writers = inside.writers.items } in
    let w_is : c.writer_for-chosen.result ≡ chosen before c.args.writer =
    c.writer_for-chosen.ensures.chosen ∙ ap₂ (λ (ws : List WalWriter) (n : ℕ). writer_of ws n c.args.writer) (c.as_slice.ensures.value ∙ c.reserve-2.ensures.items) (ap length (c.refs.ensures.list ∙ c.reserve.ensures.list)) in
    let log = c.enter.new.log in
    let new : Sequence = record { refs = log.refs; spare = log.spare; pending = log.pending; schemas = inside.schemas; writers = c.reserve-2.new.self.items } in
    let few : length before.refs < MAX_TXNS = subst (λ (s : Sequence). length s.refs < MAX_TXNS) (sym c.self.view_is) c.requires.few in
    let clean : before.pending ≡ None = subst (λ (s : Sequence). s.pending ≡ None) (sym c.self.view_is) c.requires.clean in
    rw p.1 (subst (λ (s : Sequence). (e : Entry) → SpellsEntry c.args.bytes.now e → IsLawfulOver s.schemas e → unwrap_or c.args.after s.schemas ≡ fold schemas_step s.schemas e.ops → Told old now (Accepts {T = Committed} {E = CommitFault} (Err p.0) s new (λ x. x ≡ e))) c.self.view_is
    (λ e spells over leaves. put_failed_told before new c.args.writer c.args.seg_bytes c.args.bytes.now c.reserve.new.self.refs c.writer_for-chosen.result c.reserve.ensures.list w_is c.self.invariant.1 few clean old now
    WalRef Committed IoFault CommitFault c.in_err-at.field-0.0 p.0 (record { refs = c.in_err-at.ensures.stays ∙ c.reserve.ensures.list; schemas = refl; writers = c.reserve-2.ensures.items }) c.in_err-at.ensures.told e spells over))

pub invariant_of-self-2 : goal.invariant_of-self-2
invariant_of-self-2 g c =
    let inside = c.self.inside in
    let before : Sequence = record { refs = inside.log.refs; spare = inside.log.spare; pending = inside.log.pending; schemas = inside.schemas; writers = inside.writers.items } in
    let w_is : c.writer_for-chosen.result ≡ chosen before c.args.writer =
    c.writer_for-chosen.ensures.chosen ∙ ap₂ (λ (ws : List WalWriter) (n : ℕ). writer_of ws n c.args.writer) (c.as_slice.ensures.value ∙ c.reserve-2.ensures.items) (ap length (c.refs.ensures.list ∙ c.reserve.ensures.list)) in (
      subst AreSchemas (sym c.replace.ensures.replaced) (sound_or c.args.after inside.schemas c.requires.sound c.self.invariant.0),
      subst (λ (ws : List WalWriter). AreKept (length c.enter.new.log.refs) ws)
          (sym (c.keep.ensures.kept ∙ ap₂ with_writer c.reserve-2.ensures.items c.writer_behind.ensures.behind))
          (kept_after before c.args.writer c.writer_for-chosen.result c.reserve.new.self.refs c.reserve.ensures.list w_is c.self.invariant.1 c.args.seg_bytes (length c.args.bytes.now) c.in_ok-at.at c.enter.new.log.refs c.in_ok-at.ensures.place c.in_ok-at.ensures.entered.0),
    )

pub returns-clause-told : goal.returns-clause-told
returns-clause-told g c =
    let old = (g.V.Volume.storage c.args.volume.now).disk in
    let now = (g.V.Volume.storage c.enter.new.volume).disk in
    let inside = c.self.inside in
    let before : Sequence = record { refs = inside.log.refs; spare = inside.log.spare; pending = inside.log.pending; schemas = inside.schemas; writers = inside.writers.items } in
    let w_is : c.writer_for-chosen.result ≡ chosen before c.args.writer =
    c.writer_for-chosen.ensures.chosen ∙ ap₂ (λ (ws : List WalWriter) (n : ℕ). writer_of ws n c.args.writer) (c.as_slice.ensures.value ∙ c.reserve-2.ensures.items) (ap length (c.refs.ensures.list ∙ c.reserve.ensures.list)) in
    let log = c.enter.new.log in
    let new : Sequence = record { refs = log.refs; spare = log.spare; pending = log.pending; schemas = c.replace.new.schemas; writers = c.keep.new.writers.items } in
    let done : Committed = record { n = length c.refs-2.result.now; writer = c.in_ok-at.at.wal } in
    let few : length before.refs < MAX_TXNS = subst (λ (s : Sequence). length s.refs < MAX_TXNS) (sym c.self.view_is) c.requires.few in
    let clean : before.pending ≡ None = subst (λ (s : Sequence). s.pending ≡ None) (sym c.self.view_is) c.requires.clean in
    subst (λ (s : Sequence). (e : Entry) → SpellsEntry c.args.bytes.now e → IsLawfulOver s.schemas e → unwrap_or c.args.after s.schemas ≡ fold schemas_step s.schemas e.ops → Told old now (Accepts {T = Committed} {E = CommitFault} (Ok done) s new (λ x. x ≡ e))) c.self.view_is
    (λ e spells over leaves. put_done_told before new c.args.writer c.args.seg_bytes c.args.bytes.now c.reserve.new.self.refs c.writer_for-chosen.result c.reserve.ensures.list w_is c.self.invariant.1 few clean old now
    Committed IoFault CommitFault c.in_ok-at.at done c.args.after c.in_ok-at.ensures.place c.in_ok-at.ensures.entered.0 c.in_ok-at.ensures.entered.1 c.replace.ensures.replaced
    (c.keep.ensures.kept ∙ ap₂ with_writer c.reserve-2.ensures.items c.writer_behind.ensures.behind) c.in_ok-at.ensures.told e spells over leaves)
