-- What calls on the log, and on other files, leave of a sequence.
use Rattle.std.proofs.Common.{◌≡◌, inl, inr, ℕ, nat_eq, List, [], ◌∷◌, ◌++◌, Option, None, Some, Result, Ok, Err, sym, subst, ◌∙◌, All}
use Rattle.qd_base.specs.declared.op.Entry.{Entry}
use Rattle.qd_base.specs.declared.part.WalRef.{WalRef}
use Rattle.qd_base.specs.Lawful.{Lawful}
use Rattle.qd_volume.specs.Disk.{Disk, Image, reads_of}
use Rattle.qd_durable.specs.Moments.{EachNow, LeavesOnly, Moves, SameBut}
use Rattle.qd_durable.proofs.Moved.{leaves_weaker, moments_have, now_has}
use Rattle.qd_seq.specs.States.{GivesKnown, Knows}
use Rattle.qd_seq.specs.Calls.{Repairs}
use Rattle.qd_seq.proofs.Images.{gives_known}
use Rattle.qd_seq.proofs.Steps.{others_leave}
use Rattle.qd_wal.specs.declared.writer.WalWriter.{WalWriter}
use Rattle.qd_wal.specs.Reading.{SpellsAt}
use Rattle.qd_wal.specs.Segments.{file_in}
use Rattle.qd_wal.proofs.LawLemmas.{one_read}
use Rattle.qd_sequencer.specs.Histories.{AreSpelled, HasPending, IsPending, MayHold}
use Rattle.qd_sequencer.specs.Sequences.{IsAsBefore, IsInFront, IsSequence, Sequence}
use Rattle.qd_sequencer.specs.Calls.{PendsAsBefore, Settles}
use Rattle.qd_sequencer.specs.Laws.{OtherFilesLeaveTheSequence, WhatASequenceHolds}
use Rattle.qd_sequencer.proofs.Moments.{leaves_and, now_reads}
use Rattle.qd_sequencer.proofs.Held.{SameSegments, all_kept, has_kept, log_alone, log_among, one_kept, same_segments, spelled_push}

-- An image that gives what is known, with the transactions spelled, holds the history, or that with the one that is pending.
module _ (refs : List WalRef) (h : List Entry) (lawful : Lawful h) where
  abbrev pub PendingAt : Option WalRef → Entry → Image → Type 0
  PendingAt None e image = Unit {0}
  PendingAt (Some ref) e image = SpellsAt (image (file_in ref)) ref e

  given_holds : (disk : Disk) (image : Image) → GivesKnown refs None image → AreSpelled refs h image → MayHold refs h (IsPending None disk) image
  given_holds disk image gives spelled = inl (record { gives = gives; spelled = spelled; lawful = lawful })

  pending_holds : (ref : WalRef) (e : Entry) (disk : Disk) (image : Image) → Lawful (h ++ e ∷ []) → IsPending (Some ref) disk e → GivesKnown refs (Some ref) image → AreSpelled refs h image → SpellsAt (image (file_in ref)) ref e → MayHold refs h (IsPending (Some ref) disk) image
  pending_holds ref e disk image next is (inl gives) spelled spells = inl (record { gives = gives; spelled = spelled; lawful = lawful })
  pending_holds ref e disk image next is (inr gives) spelled spells = inr (ref, e, is, record { gives = gives; spelled = spelled_push ref e image spells refs h spelled; lawful = next })

  -- now
  pub holds_now : (pending : Option WalRef) (disk : Disk) → Knows refs pending disk → EachNow disk (AreSpelled refs h) → HasPending pending h disk → EachNow disk (MayHold refs h (IsPending pending disk))
  holds_now None disk knows spelled has image now = given_holds disk image (gives_known refs None image (knows image now)) (spelled image now)
  holds_now (Some ref) disk knows spelled has image now = pending_holds ref has.0 disk image has.2 has.1 (gives_known refs (Some ref) image (knows image now)) (spelled image now) (has.1 image now)

  -- and at each moment of a call that leaves the segments
  pub holds_while : (pending : Option WalRef) (R : Image → Image → Type 0) (before after : Disk) → Moves R before after → ((earlier image : Image) → R earlier image → SameSegments earlier image) →
      LeavesOnly before after (GivesKnown refs pending) → EachNow before (AreSpelled refs h) → HasPending pending h before → LeavesOnly before after (MayHold refs h (IsPending pending before))
  holds_while None R before after moves same gives spelled has =
      leaves_weaker (λ image. GivesKnown refs None image × AreSpelled refs h image) (MayHold refs h (IsPending None before)) before after
      (λ image both. given_holds before image both.0 both.1)
      (leaves_and (GivesKnown refs None) (AreSpelled refs h) before after gives
      (moments_have R (AreSpelled refs h) (AreSpelled refs h) before after moves spelled (λ earlier image s r. all_kept refs h earlier image (same earlier image r) s)))
  holds_while (Some ref) R before after moves same gives spelled has =
      let Entry_at : Image → Type 0 = λ image. SpellsAt (image (file_in ref)) ref has.0 in
      leaves_weaker (λ image. (GivesKnown refs (Some ref) image × AreSpelled refs h image) × Entry_at image) (MayHold refs h (IsPending (Some ref) before)) before after
      (λ image both. pending_holds ref has.0 before image has.2 has.1 both.0.0 both.0.1 both.1)
      (leaves_and (λ image. GivesKnown refs (Some ref) image × AreSpelled refs h image) Entry_at before after
      (leaves_and (GivesKnown refs (Some ref)) (AreSpelled refs h) before after gives
      (moments_have R (AreSpelled refs h) (AreSpelled refs h) before after moves spelled (λ earlier image s r. all_kept refs h earlier image (same earlier image r) s)))
      (moments_have R Entry_at Entry_at before after moves has.1 (λ earlier image s r. one_kept ref has.0 earlier image (same earlier image r) s)))

pub spelled_after : (refs : List WalRef) (h : List Entry) (R : Image → Image → Type 0) (before after : Disk) → Moves R before after → ((earlier image : Image) → R earlier image → SameSegments earlier image) → EachNow before (AreSpelled refs h) → EachNow after (AreSpelled refs h)
spelled_after refs h R before after moves same spelled = now_has R (AreSpelled refs h) (AreSpelled refs h) before after moves spelled (λ earlier image s r. all_kept refs h earlier image (same earlier image r) s)

-- what is pending behind a call that leaves the segments was so before it
pub pends_as_before : (pending : Option WalRef) (h : List Entry) (R : Image → Image → Type 0) (before after : Disk) → Moves R before after → ((earlier image : Image) → R earlier image → SameSegments earlier image)
    → HasPending pending h before → PendsAsBefore pending pending before after
pends_as_before None h R before after moves same has e none = absurd none
pends_as_before (Some ref) h R before after moves same has e is =
    let image = reads_of after in
    let now = now_reads after in
    let from = moves.now image now in
    let spells : SpellsAt (from.0 (file_in ref)) ref e = subst (λ (bytes : List ℕ). SpellsAt bytes ref e) (same from.0 image from.2 ref) (is image now) in
    subst (λ (x : Entry). IsPending (Some ref) before x) (one_read (from.0 (file_in ref)) ref has.0 e (has.1 from.0 from.1) spells) has.1

-- where nothing is pending, it is no transaction
pub none_pends : (pending : Option WalRef) (disk : Disk) (e : Entry) → pending ≡ None → IsPending pending disk e → ⊥
none_pends pending disk e clean is = subst (λ (p : Option WalRef). IsPending p disk e) clean is

-- ---- the laws

pub sequence_holds : WhatASequenceHolds
sequence_holds s h disk is = holds_now s.refs h is.lawful s.pending disk is.log is.spelled is.pending

pub others_leave_it : OtherFilesLeaveTheSequence
others_leave_it touched s h before after elsewhere moves is =
    let same : (earlier image : Image) → SameBut touched earlier image → SameSegments earlier image = λ earlier image r. same_segments touched earlier image elsewhere.segments r in
    let left = others_leave touched before after s.refs s.pending elsewhere.log moves is.log in (
      holds_while s.refs h is.lawful s.pending (SameBut touched) before after moves same left.0 is.spelled is.pending,
      record {
        log = left.1;
        spelled = spelled_after s.refs h (SameBut touched) before after moves same is.spelled;
        lawful = is.lawful;
        schemas = is.schemas;
        pending = has_kept s.pending h (SameBut touched) before after moves same is.pending;
        writers = is.writers;
      },
      pends_as_before s.pending h (SameBut touched) before after moves same is.pending,
    )

-- ---- a sequence that stays

pub sequence_of : (old new : Sequence) (h : List Entry) (before after : Disk) → IsAsBefore old new → IsSequence old h before → Knows old.refs new.pending after → EachNow after (AreSpelled old.refs h) → HasPending new.pending h after → IsSequence new h after
sequence_of old new h before after same is knows spelled has = record {
  log = subst (λ (l : List WalRef). Knows l new.pending after) (sym same.refs) knows;
  spelled = subst (λ (l : List WalRef). EachNow after (AreSpelled l h)) (sym same.refs) spelled;
  lawful = is.lawful;
  schemas = same.schemas ∙ is.schemas;
  pending = has;
  writers = subst (λ (l : List WalRef). All (λ (w : WalWriter). All (IsInFront w) l) new.writers) (sym same.refs)
      (subst (λ (ws : List WalWriter). All (λ (w : WalWriter). All (IsInFront w) old.refs) ws) (sym same.writers) is.writers);
}

-- ---- the repair

module _ (old new : Sequence) (before after : Disk) (same : IsAsBefore old new) where
  module _ {T E : Type 0} (R : Result T E) (repairs : Repairs R old.refs old.pending before after) where
    kept : (earlier image : Image) → SameBut (nat_eq 1) earlier image → SameSegments earlier image
    kept earlier image r = log_alone earlier image r

    settle_holds : (h : List Entry) → IsSequence old h before → LeavesOnly before after (MayHold old.refs h (IsPending old.pending before))
    settle_holds h is = holds_while old.refs h is.lawful old.pending (SameBut (nat_eq 1)) before after repairs.elsewhere kept (repairs.any_moment is.log) is.spelled is.pending

    settle_spelled : (h : List Entry) → IsSequence old h before → EachNow after (AreSpelled old.refs h)
    settle_spelled h is = spelled_after old.refs h (SameBut (nat_eq 1)) before after repairs.elsewhere kept is.spelled

    settle_pending : (h : List Entry) → IsSequence old h before → HasPending old.pending h after
    settle_pending h is = has_kept old.pending h (SameBut (nat_eq 1)) before after repairs.elsewhere kept is.pending

  pub settled : {T E : Type 0} (done : T) → Repairs {T = T} {E = E} (Ok done) old.refs old.pending before after → new.pending ≡ None → Settles old new before after
  settled {T} {E} done repairs clean = record {
    any_moment = settle_holds {T = T} {E = E} (Ok done) repairs;
    behind = λ h is.
        sequence_of old new h before after same is
        (subst (λ (p : Option WalRef). Knows old.refs p after) (sym clean) (repairs.behind is.log).1)
        (settle_spelled {T = T} {E = E} (Ok done) repairs h is)
        (subst (λ (p : Option WalRef). HasPending p h after) (sym clean) tt);
    pending = λ h is e p. absurd (none_pends new.pending after e clean p);
    elsewhere = log_among before after repairs.elsewhere;
  }

  pub unsettled : {T E : Type 0} (fault : E) → Repairs {T = T} {E = E} (Err fault) old.refs old.pending before after → new.pending ≡ old.pending → Settles old new before after
  unsettled {T} {E} fault repairs stays = record {
    any_moment = settle_holds {T = T} {E = E} (Err fault) repairs;
    behind = λ h is.
        sequence_of old new h before after same is
        (subst (λ (p : Option WalRef). Knows old.refs p after) (sym stays) (repairs.behind is.log))
        (settle_spelled {T = T} {E = E} (Err fault) repairs h is)
        (subst (λ (p : Option WalRef). HasPending p h after) (sym stays) (settle_pending {T = T} {E = E} (Err fault) repairs h is));
    pending = λ h is.
        subst (λ (p : Option WalRef). PendsAsBefore old.pending p before after) (sym stays)
        (pends_as_before old.pending h (SameBut (nat_eq 1)) before after repairs.elsewhere log_alone is.pending);
    elsewhere = log_among before after repairs.elsewhere;
  }
