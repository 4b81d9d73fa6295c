-- What a commit leaves of a sequence.
use Rattle.std.proofs.Common.{◌≡◌, ◌⊎◌, inl, inr, ℕ, ◌+◌, ◌<◌, ◌≤◌, List, [], ◌∷◌, ◌++◌, length, fold, All, Option, None, Some, Bool, true, false, cond, IfSome, IsSome, unwrap_or, OnOk, OnErr, Result, Ok, Err, refl, sym, ap, subst, ◌∙◌, arith}
use Rattle.std.specs.List.{AllByRecursion}
use Rattle.std.proofs.lemmas.List.{length_push}
use Rattle.std.proofs.lemmas.List.Elements.{All-from_recursion, All-nil, recursion_from_All}
use Rattle.qd_base.specs.declared.op.Entry.{Entry}
use Rattle.qd_base.specs.declared.part.WalRef.{WalRef}
use Rattle.qd_base.specs.declared.schema.Schema.{Schema}
use Rattle.qd_base.specs.Lawful.{AreSchemas}
use Rattle.qd_base.specs.Schemas.{schemas_step}
use Rattle.qd_io.specs.Ends.{Counts}
use Rattle.qd_io.specs.declared.fault.IoFault.{IoFault}
use Rattle.qd_io.specs.declared.fault.IoFault.TheVariants as io
use Rattle.qd_volume.specs.Disk.{Disk, Image, reads_of, file_of}
use Rattle.qd_volume.proofs.Sound.{image_of_reads, sound_file}
use Rattle.qd_durable.specs.Moments.{EachNow, LeavesOnly, SameBut, Told}
use Rattle.qd_durable.proofs.Moved.{but_same, leaves_both, leaves_still, leaves_weaker, moves_both, moves_still, but_both}
use Rattle.qd_durable.proofs.Writes.{told_both, told_map, told_still}
use Rattle.qd_wal_entry.specs.Spelling.{SpellsEntry}
use Rattle.qd_seq.specs.Calls.{Creates, Repairs}
use Rattle.qd_seq.specs.States.{Knows, Log}
use Rattle.qd_wal.specs.declared.writer.WalWriter.{WalWriter}
use Rattle.qd_wal.specs.Puts.{IsApart}
use Rattle.qd_wal.specs.Segments.{behind, is_full, ref_for}
use Rattle.qd_sequencer.specs.Faults.{CountsFault, IsOfVolume, fault_of}
use Rattle.qd_sequencer.specs.Histories.{AreSpelled, HasPending, HoldsHistory, IsLawfulOver, IsPending, MayHold, is_log_file}
use Rattle.qd_sequencer.specs.Sequences.{AreKept, IsAsBefore, IsInFront, IsSequence, Sequence, chosen, fresh, with_writer}
use Rattle.qd_sequencer.specs.Calls.{Accepts, Enters, IsReady, Makes, PendsOwn, Settles}
use Rattle.qd_sequencer.proofs.Held.{log_among, may_hold}
use Rattle.qd_sequencer.proofs.Histories.{lawful_next, schemas_more}
use Rattle.qd_sequencer.proofs.SequenceLemmas.{none_pends, sequence_holds, sequence_of, settled, unsettled}
use Rattle.qd_sequencer.proofs.WriterLemmas.{IsLow, all_front_apart, chosen_has, chosen_low, fresh_front, kept_with, lawful_low, writers_behind}
use Rattle.qd_base.specs.declared.limits.TheConstants.{MAX_TXNS}

-- ---- faults

pub counts_of : (T U : Type 0) (before now : ℕ) (f : IoFault) → Counts {T = T} before now (Err f) → CountsFault {T = U} before now (Err (fault_of f))
counts_of T U before now io.Failed counts = counts
counts_of T U before now io.Memory counts = counts

pub of_volume : (f : IoFault) → IsOfVolume (fault_of f)
of_volume io.Failed = tt
of_volume io.Memory = tt

-- ---- the making

module _ (s : Sequence) (log : Log) (refs : s.refs ≡ []) (clean : s.pending ≡ None) (schemas : s.schemas ≡ []) (writers : s.writers ≡ []) where
  made : (before after : Disk) → Creates {T = Log} {E = IoFault} (Ok log) before after → Makes {E = IoFault} (Ok s) before after
  made before after creates = record {
    made = (
      (λ image now. record { gives = creates.created.0 image now; spelled = tt; lawful = tt }),
      record {
        log = subst (λ (l : List WalRef). Knows l s.pending after) (sym refs) (subst (λ (p : Option WalRef). Knows [] p after) (sym clean) creates.created.1);
        spelled = λ image now. subst (λ (l : List WalRef). AreSpelled l [] image) (sym refs) tt;
        lawful = tt;
        schemas = schemas;
        pending = subst (λ (p : Option WalRef). HasPending p [] after) (sym clean) tt;
        writers = subst (λ (ws : List WalWriter). All (λ (w : WalWriter). All (IsInFront w) s.refs) ws) (sym writers) (All-nil (λ (w : WalWriter). All (IsInFront w) s.refs));
      },
    );
    touches = creates.touches;
    elsewhere = log_among before after creates.elsewhere;
  }

  pub made_told : (old new : Option Disk) → Told old new (Creates {T = Log} {E = IoFault} (Ok log)) → Told old new (Makes {E = IoFault} (Ok s))
  made_told old new told = told_map (Creates {T = Log} {E = IoFault} (Ok log)) (Makes {E = IoFault} (Ok s)) old new made told

pub not_made_told : (fault answer : IoFault) (old new : Option Disk) → Told old new (Creates {T = Log} {E = IoFault} (Err fault)) → Told old new (Makes {E = IoFault} (Err answer))
not_made_told fault answer old new told = told_map (Creates {T = Log} {E = IoFault} (Err fault)) (Makes {E = IoFault} (Err answer)) old new
    (λ before after creates. record { made = tt; touches = creates.touches; elsewhere = log_among before after creates.elsewhere }) told

-- ---- the repair

pub settles_told : (old new : Sequence) (before after : Option Disk) (R : Result (Unit {0}) IoFault) → IsAsBefore old new → OnOk R (new.pending ≡ None) → OnErr R ((new.pending ≡ old.pending) × IsSome old.pending) →
    Told before after (Repairs {T = Unit {0}} {E = IoFault} R old.refs old.pending) → Told before after (Settles old new)
settles_told old new before after (Ok done) same clean stays told = told_map (Repairs {T = Unit {0}} {E = IoFault} (Ok done) old.refs old.pending) (Settles old new) before after (λ a b repairs. settled old new a b same done repairs clean) told
settles_told old new before after (Err fault) same clean stays told = told_map (Repairs {T = Unit {0}} {E = IoFault} (Err fault) old.refs old.pending) (Settles old new) before after (λ a b repairs. unsettled old new a b same fault repairs stays.0) told

-- ---- a commit

-- some image may be left now
image_there : (disk : Disk) (P : Image → Type 0) → EachNow disk P → P (reads_of disk)
image_there disk P each = each (reads_of disk) (λ file. image_of_reads (file_of disk file) (sound_file disk file))

-- the references are lawful
low_refs : (refs : List WalRef) (pending : Option WalRef) (disk : Disk) → Knows refs pending disk → AllByRecursion (IsLow (length refs)) refs
low_refs refs pending disk knows = lawful_low 0 (length refs) refs (omega arith) (image_there disk _ knows).records.lawful

module _ (old : Sequence) (writer : Option ℕ) (seg_bytes len : ℕ) (kept : AreKept (length old.refs) old.writers) (few : length old.refs < MAX_TXNS) where
  w : WalWriter
  w = chosen old writer

  module _ (h : List Entry) (disk : Disk) (is : IsSequence old h disk) where
    chosen_front : All (IsInFront (chosen old writer)) old.refs
    chosen_front = chosen_has (λ (w : WalWriter). All (IsInFront w) old.refs) old.writers (length old.refs) writer is.writers
        (All-from_recursion (IsInFront (fresh (length old.refs))) old.refs (fresh_front (length old.refs) old.refs (low_refs old.refs old.pending disk is.log)))

    chosen_apart : AllByRecursion (IsApart (ref_for (chosen old writer) seg_bytes len)) old.refs
    chosen_apart =
        let low = chosen_low (length old.refs) old.writers writer kept in
        all_front_apart (chosen old writer) seg_bytes len (length old.refs) (omega (arith, low.1)) old.refs (low_refs old.refs old.pending disk is.log)
        (recursion_from_All (IsInFront (chosen old writer)) old.refs chosen_front)

    chosen_behind : All (λ (x : WalWriter). All (IsInFront x) (old.refs ++ ref_for (chosen old writer) seg_bytes len ∷ [])) (with_writer old.writers (behind (ref_for (chosen old writer) seg_bytes len)))
    chosen_behind = writers_behind old.writers (chosen old writer) seg_bytes len old.refs kept.apart is.writers chosen_front

module _ (old new : Sequence) (writer : Option ℕ) (seg_bytes : ℕ) (bytes : List ℕ) (e : Entry) (kept : AreKept (length old.refs) old.writers) (few : length old.refs < MAX_TXNS) (clean : old.pending ≡ None)
    (spells : SpellsEntry bytes e) (over : IsLawfulOver old.schemas e) where
  ready : (h : List Entry) (before : Disk) → IsSequence old h before → IsReady old.refs h (ref_for (chosen old writer) seg_bytes (length bytes)) e bytes before
  ready h before is = record {
    log = subst (λ (p : Option WalRef). Knows old.refs p before) clean is.log;
    spelled = is.spelled;
    lawful = is.lawful;
    next = lawful_next old.schemas h e is.lawful is.schemas over;
    apart = chosen_apart old writer seg_bytes (length bytes) kept few h before is;
    bytes_are = spells;
    long = refl;
  }

  module _ {T E : Type 0} (R : Result T E) (before after : Disk) (enters : Enters R old.refs (ref_for (chosen old writer) seg_bytes (length bytes)) bytes new.pending before after) where
    moments : (h : List Entry) → IsSequence old h before → LeavesOnly before after (MayHold old.refs h (λ x. (x ≡ e) ⊎ IsPending old.pending before x))
    moments h is = leaves_weaker (MayHold old.refs h (λ x. x ≡ e)) (MayHold old.refs h (λ x. (x ≡ e) ⊎ IsPending old.pending before x)) before after
        (λ image holds. may_hold old.refs h (λ x. x ≡ e) (λ x. (x ≡ e) ⊎ IsPending old.pending before x) image (λ x same. inl same) holds)
        (enters.any_moment h e (ready h before is))

  pub accepts_failed : {T U E F : Type 0} (fault : E) (answer : F) (before after : Disk) → IsAsBefore old new → Enters {T = T} {E = E} (Err fault) old.refs (ref_for (chosen old writer) seg_bytes (length bytes)) bytes new.pending before after →
      Accepts {T = U} {E = F} (Err answer) old new (λ x. x ≡ e) before after
  accepts_failed {T} {U} {E} {F} fault answer before after same enters = record {
    any_moment = moments {T = T} {E = E} (Err fault) before after enters;
    behind = λ h is. let left = enters.behind h e (ready h before is) in sequence_of old new h before after same is left.0 left.1 left.2;
    pending = λ h is. inr (enters.behind h e (ready h before is)).3;
    elsewhere = enters.elsewhere;
  }

  pub accepts_done : {T U E F : Type 0} (done : T) (answer : U) (before after : Disk) → new.refs ≡ old.refs ++ ref_for (chosen old writer) seg_bytes (length bytes) ∷ [] → new.pending ≡ None →
      new.schemas ≡ fold schemas_step old.schemas e.ops → new.writers ≡ with_writer old.writers (behind (ref_for (chosen old writer) seg_bytes (length bytes))) →
      Enters {T = T} {E = E} (Ok done) old.refs (ref_for (chosen old writer) seg_bytes (length bytes)) bytes new.pending before after → Accepts {T = U} {E = F} (Ok answer) old new (λ x. x ≡ e) before after
  accepts_done {T} {U} {E} {F} done answer before after refs clean schemas writers enters = record {
    any_moment = moments {T = T} {E = E} (Ok done) before after enters;
    behind = λ h is.
        let left = enters.behind h e (ready h before is) in
        let front = chosen_behind old writer seg_bytes (length bytes) kept few h before is in (
          e,
          refl,
          (λ image now. subst (λ (l : List WalRef). HoldsHistory l (h ++ e ∷ []) image) (sym refs) (left.0 image now)),
          record {
            log = subst (λ (l : List WalRef). Knows l new.pending after) (sym refs) (subst (λ (p : Option WalRef). Knows (old.refs ++ ref_for (chosen old writer) seg_bytes (length bytes) ∷ []) p after) (sym clean) left.1);
            spelled = subst (λ (l : List WalRef). EachNow after (AreSpelled l (h ++ e ∷ []))) (sym refs) left.2;
            lawful = lawful_next old.schemas h e is.lawful is.schemas over;
            schemas = schemas ∙ ap (λ (x : List Schema). fold schemas_step x e.ops) is.schemas ∙ sym (schemas_more [] h e);
            pending = subst (λ (p : Option WalRef). HasPending p (h ++ e ∷ []) after) (sym clean) tt;
            writers = subst (λ (l : List WalRef). All (λ (x : WalWriter). All (IsInFront x) l) new.writers) (sym refs)
                (subst (λ (ws : List WalWriter). All (λ (x : WalWriter). All (IsInFront x) (old.refs ++ ref_for (chosen old writer) seg_bytes (length bytes) ∷ [])) ws) (sym writers) front);
          },
        );
    pending = λ h is. inr (λ x p. absurd (none_pends new.pending after x clean p));
    elsewhere = enters.elsewhere;
  }

-- nothing is done
pub accepts_still : {T E : Type 0} (answer : E) (old new : Sequence) (own : Entry → Type 0) (disk : Disk) → IsAsBefore old new → new.pending ≡ old.pending → Accepts {T = T} {E = E} (Err answer) old new own disk disk
accepts_still answer old new own disk same pending = record {
  any_moment = λ h is. leaves_still (MayHold old.refs h (λ x. own x ⊎ IsPending old.pending disk x)) disk
      (λ image now. may_hold old.refs h (IsPending old.pending disk) (λ x. own x ⊎ IsPending old.pending disk x) image (λ x p. inr p) (sequence_holds old h disk is image now));
  behind = λ h is. sequence_of old new h disk disk same is
      (subst (λ (p : Option WalRef). Knows old.refs p disk) (sym pending) is.log) is.spelled (subst (λ (p : Option WalRef). HasPending p h disk) (sym pending) is.pending);
  pending = λ h is. inl (λ x p. subst (λ (o : Option WalRef). IsPending o disk x) pending p);
  elsewhere = moves_still _ disk (but_same is_log_file);
}

-- ---- a repair, and then the commit

module _ (old mid : Sequence) (before between : Disk) (settles : Settles old mid before between) (same : IsAsBefore old mid) where
  own_or_pending : (own : Entry → Type 0) (h : List Entry) → IsSequence old h before → LeavesOnly before between (MayHold old.refs h (λ x. own x ⊎ IsPending old.pending before x))
  own_or_pending own h is = leaves_weaker (MayHold old.refs h (IsPending old.pending before)) (MayHold old.refs h (λ x. own x ⊎ IsPending old.pending before x)) before between
      (λ image holds. may_hold old.refs h (IsPending old.pending before) (λ x. own x ⊎ IsPending old.pending before x) image (λ x p. inr p) holds)
      (settles.any_moment h is)

  -- nothing more is done
  pub accepts_settled : {T E : Type 0} (answer : E) (own : Entry → Type 0) → Accepts {T = T} {E = E} (Err answer) old mid own before between
  accepts_settled answer own = record {
    any_moment = own_or_pending own;
    behind = settles.behind;
    pending = λ h is. inl (settles.pending h is);
    elsewhere = settles.elsewhere;
  }

  no_pending : (pending : Option WalRef) (own : Entry → Type 0) (disk : Disk) (x : Entry) → pending ≡ None → own x ⊎ IsPending pending disk x → own x
  no_pending None own disk x clean (inl o) = o
  no_pending None own disk x clean (inr p) = absurd p
  no_pending (Some ref) own disk x clean both = absurd (cc)

  -- where nothing is pending before a commit, its own alone is behind it
  own_alone : (new : Sequence) (own : Entry → Type 0) (after : Disk) → mid.pending ≡ None → PendsOwn mid.pending new.pending own between after → (x : Entry) → IsPending new.pending after x → own x
  own_alone new own after clean (inl as_before) x p = absurd (none_pends mid.pending between x clean (as_before x p))
  own_alone new own after clean (inr mine) x p = mine x p

  pub accepts_after : {T E : Type 0} (R : Result T E) (new : Sequence) (own : Entry → Type 0) (after : Disk) → mid.pending ≡ None → Accepts R mid new own between after → Accepts R old new own before after
  accepts_after R new own after clean accepts = record {
    any_moment = λ h is. leaves_both before between after (MayHold old.refs h (λ x. own x ⊎ IsPending old.pending before x)) (own_or_pending own h is)
        (leaves_weaker (MayHold mid.refs h (λ x. own x ⊎ IsPending mid.pending between x)) (MayHold old.refs h (λ x. own x ⊎ IsPending old.pending before x)) between after
        (λ image holds. subst (λ (l : List WalRef). MayHold l h (λ x. own x ⊎ IsPending old.pending before x) image) same.refs
        (may_hold mid.refs h (λ x. own x ⊎ IsPending mid.pending between x) (λ x. own x ⊎ IsPending old.pending before x) image (λ x p. inl (no_pending mid.pending own between x clean p)) holds))
        (accepts.any_moment h (settles.behind h is)));
    behind = λ h is. accepts.behind h (settles.behind h is);
    pending = λ h is. inr (own_alone new own after clean (accepts.pending h (settles.behind h is)));
    elsewhere = moves_both (SameBut is_log_file) (SameBut is_log_file) (SameBut is_log_file) before between after (λ x y s. s) (but_both is_log_file) settles.elsewhere accepts.elsewhere;
  }

-- the same of a volume that may tell nothing
module _ (old mid : Sequence) (before between : Option Disk) (same : IsAsBefore old mid) (settles : Told before between (Settles old mid)) where
  pub accepts_settled_told : (T E : Type 0) (answer : E) (own : Entry → Type 0) → Told before between (Accepts {T = T} {E = E} (Err answer) old mid own)
  accepts_settled_told T E answer own = told_map (Settles old mid) (Accepts {T = T} {E = E} (Err answer) old mid own) before between (λ a b s. accepts_settled old mid a b s same answer own) settles

  pub accepts_after_told : {T E : Type 0} (R : Result T E) (new : Sequence) (own : Entry → Type 0) (after : Option Disk) → mid.pending ≡ None → Told between after (Accepts R mid new own) → Told before after (Accepts R old new own)
  accepts_after_told R new own after clean accepts = told_both (Settles old mid) (Accepts R mid new own) (Accepts R old new own) before between after
      (λ a b c s t. accepts_after old mid a b s same R new own c clean t) settles accepts

-- ---- the facts of a commit's steps

-- the writer that is chosen
module _ (before : Sequence) (writer : Option ℕ) (w : WalWriter) (refs : List WalRef) (refs_are : refs ≡ before.refs) (w_is : w ≡ chosen before writer) (kept : AreKept (length before.refs) before.writers) where
  pub chosen_within : (w.wal ≤ length refs) × (w.segment ≤ length refs)
  chosen_within =
      let low = chosen_low (length before.refs) before.writers writer kept in
      subst (λ (l : List WalRef). (w.wal ≤ length l) × (w.segment ≤ length l)) (sym refs_are)
      (subst (λ (x : WalWriter). (x.wal ≤ length before.refs) × (x.segment ≤ length before.refs)) (sym w_is) low)

  -- and the writers that are kept behind its entry
  pub kept_after : (seg_bytes len : ℕ) (at : WalRef) (new : List WalRef) → at ≡ ref_for w seg_bytes len → new ≡ refs ++ ref_for w seg_bytes len ∷ [] → AreKept (length new) (with_writer before.writers (behind at))
  kept_after seg_bytes len at new at_is new_is =
      let long : length new ≡ length before.refs + 1 = ap length new_is ∙ length_push refs (ref_for w seg_bytes len) ∙ ap (λ (l : List WalRef). length l + 1) refs_are in
      subst (λ (a : WalRef). AreKept (length new) (with_writer before.writers (behind a))) (sym at_is)
      (kept_with (length before.refs) (length new) before.writers (behind (ref_for w seg_bytes len)) long
      (subst (λ (l : List WalRef). w.wal ≤ length l) refs_are chosen_within.0) (one_more (is_full w seg_bytes) (subst (λ (l : List WalRef). w.segment ≤ length l) refs_are chosen_within.1)) kept)
    where
      one_more : (full : Bool) → w.segment ≤ length before.refs → cond full (w.segment + 1) w.segment ≤ length before.refs + 1
      one_more true le = omega arith
      one_more false le = omega arith

pub sound_or : (after : Option (List Schema)) (schemas : List Schema) → IfSome after AreSchemas → AreSchemas schemas → AreSchemas (unwrap_or after schemas)
sound_or None schemas given sound = sound
sound_or (Some other) schemas given sound = given

module _ (before new : Sequence) (writer : Option ℕ) (seg_bytes : ℕ) (bytes : List ℕ) (refs : List WalRef) (w : WalWriter) (refs_are : refs ≡ before.refs) (w_is : w ≡ chosen before writer)
    (kept : AreKept (length before.refs) before.writers) (few : length before.refs < MAX_TXNS) (clean : before.pending ≡ None) (old now : Option Disk) where
  entered_as : {T E : Type 0} (R : Result T E) → Told old now (Enters R refs (ref_for w seg_bytes (length bytes)) bytes new.pending) → Told old now (Enters R before.refs (ref_for (chosen before writer) seg_bytes (length bytes)) bytes new.pending)
  entered_as R told =
      subst (λ (l : List WalRef). Told old now (Enters R l (ref_for (chosen before writer) seg_bytes (length bytes)) bytes new.pending)) refs_are
      (subst (λ (x : WalWriter). Told old now (Enters R refs (ref_for x seg_bytes (length bytes)) bytes new.pending)) w_is told)

  pub put_failed_told : (T U E F : Type 0) (fault : E) (answer : F) → IsAsBefore before new → Told old now (Enters {T = T} {E = E} (Err fault) refs (ref_for w seg_bytes (length bytes)) bytes new.pending) →
      (e : Entry) → SpellsEntry bytes e → IsLawfulOver before.schemas e → Told old now (Accepts {T = U} {E = F} (Err answer) before new (λ x. x ≡ e))
  put_failed_told T U E F fault answer same told e spells over =
      told_map (Enters {T = T} {E = E} (Err fault) before.refs (ref_for (chosen before writer) seg_bytes (length bytes)) bytes new.pending) (Accepts {T = U} {E = F} (Err answer) before new (λ x. x ≡ e)) old now
      (λ a b enters. accepts_failed before new writer seg_bytes bytes e kept few clean spells over {T = T} {U = U} {E = E} {F = F} fault answer a b same enters)
      (entered_as {T = T} {E = E} (Err fault) told)

  pub put_done_told : (U E F : Type 0) (at : WalRef) (answer : U) (after : Option (List Schema)) → at ≡ ref_for w seg_bytes (length bytes) → new.refs ≡ refs ++ ref_for w seg_bytes (length bytes) ∷ [] → new.pending ≡ None →
      new.schemas ≡ unwrap_or after before.schemas → new.writers ≡ with_writer before.writers (behind at) → Told old now (Enters {T = WalRef} {E = E} (Ok at) refs (ref_for w seg_bytes (length bytes)) bytes new.pending) →
      (e : Entry) → SpellsEntry bytes e → IsLawfulOver before.schemas e → unwrap_or after before.schemas ≡ fold schemas_step before.schemas e.ops → Told old now (Accepts {T = U} {E = F} (Ok answer) before new (λ x. x ≡ e))
  put_done_told U E F at answer after at_is new_refs none schemas writers told e spells over leaves =
      let placed : new.refs ≡ before.refs ++ ref_for (chosen before writer) seg_bytes (length bytes) ∷ [] =
      subst (λ (l : List WalRef). new.refs ≡ l ++ ref_for (chosen before writer) seg_bytes (length bytes) ∷ []) refs_are
      (subst (λ (x : WalWriter). new.refs ≡ refs ++ ref_for x seg_bytes (length bytes) ∷ []) w_is new_refs) in
      let moved : new.writers ≡ with_writer before.writers (behind (ref_for (chosen before writer) seg_bytes (length bytes))) =
      subst (λ (x : WalWriter). new.writers ≡ with_writer before.writers (behind (ref_for x seg_bytes (length bytes)))) w_is
      (subst (λ (a : WalRef). new.writers ≡ with_writer before.writers (behind a)) at_is writers) in
      told_map (Enters {T = WalRef} {E = E} (Ok at) before.refs (ref_for (chosen before writer) seg_bytes (length bytes)) bytes new.pending) (Accepts {T = U} {E = F} (Ok answer) before new (λ x. x ≡ e)) old now
      (λ a b enters. accepts_done before new writer seg_bytes bytes e kept few clean spells over {T = WalRef} {U = U} {E = E} {F = F} at answer a b placed none (schemas ∙ leaves) moved enters)
      (entered_as {T = WalRef} {E = E} (Ok at) told)

pub still_told : (T E : Type 0) (answer : E) (old new : Sequence) (own : Entry → Type 0) (disk : Option Disk) → IsAsBefore old new → new.pending ≡ old.pending → Told disk disk (Accepts {T = T} {E = E} (Err answer) old new own)
still_told T E answer old new own disk same pending = told_still (Accepts {T = T} {E = E} (Err answer) old new own) disk (λ d. accepts_still answer old new own d same pending)
