-- What a round makes of a store.
use Rattle.std.proofs.Common.{◌≡◌, ◌⊎◌, ◌↔◌, ◌∙◌, ℕ, ◌<◌, ◌≤◌, inl, inr, true, false, List, [], length, get_or, All, Option, None, Some, is_some, Result, Ok, Err, Bool, IfOk, IfSome, OnErr, refl, sym, ap, ap₂, subst, arith}
use Rattle.std.proofs.lemmas.List.Elements.{All-get_or}
use Rattle.qd_base.specs.declared.op.Entry.{Entry}
use Rattle.qd_catalog.specs.declared.version.Version as catalog
use Rattle.qd_catalog.specs.Versions.{Sweeps, Versions, current_n, n_of, version_at}
use Rattle.qd_durable.specs.Moments.{Told}
use Rattle.qd_io.specs.Ends.{Counts, HasRisen}
use Rattle.qd_io.specs.declared.fault.IoFault.{IoFault}
use Rattle.qd_io.specs.declared.fault.IoFault.TheVariants as io
use Rattle.qd_sequencer.specs.Sequences.{Sequence}
use Rattle.qd_store.specs.declared.fault.PublishFault.{PublishFault}
use Rattle.qd_store.specs.declared.fault.PublishFault.TheVariants as publish
use Rattle.qd_store.specs.Calls.{Stands}
use Rattle.qd_store.specs.Damage.{IsDraftDamage}
use Rattle.qd_store.specs.Drafts.{Drafted, IsDraftOver, IsMergedOver, IsNextOf, Merging}
use Rattle.qd_durable.specs.declared.fault.LogFault.{LogFault}
use Rattle.qd_durable.specs.declared.fault.LogFault.TheVariants as log
use Rattle.qd_store.specs.Faults.{IsMoved, IsUndamaged}
use Rattle.qd_store.specs.Merges.{PublishesMerged, next_version}
use Rattle.qd_store.specs.Owned.{Store}
use Rattle.qd_store.specs.Stores.{IsStore, Book}
use Rattle.qd_store.proofs.Rounds.{Merges, merged_bounds, merged_into}
use Rattle.qd_txnfile.specs.Versions.{Version}
use Rattle.qd_versions.specs.Publishing.{IsFull, IsGrownLost}
use Rattle.qd_volume.specs.Calls.{Storage}
use Rattle.qd_volume.specs.Disk.{Disk, Image, reads_of}
use Rattle.qd_store_backend.specs.Backs.{IsAlone, IsDamageTold, IsGrowthDamaged, IsRoundDamaged, IsTailDamage, IsTold, LeavesNoOther, Parts, ShowsAll, ShowsNext, current, n_in}
use Rattle.qd_store_backend.specs.Rounds.{fault_of, IsOfVolume, IsOnlyOne, IsSwept, StaysTold}
use Rattle.qd_store_backend.proofs.Leaving.{leaves_both, leaves_here, swept_leaves}
use Rattle.qd_store_backend.proofs.Told.{told_of}

-- ---- the rows of versions

pub alone_same : (a b : Versions) → b.versions ≡ a.versions → b.current ≡ a.current → IsOnlyOne a → IsOnlyOne b
alone_same a b list cur alone row live = alone row (subst (λ (l : List (Option catalog.Version)). is_some (get_or l row None) ≡ true) list live) ∙ sym cur

pub shown_same : (a b : Versions) → b.versions ≡ a.versions → b.current ≡ a.current → version_at b b.current ≡ version_at a a.current
shown_same a b list cur = ap₂ (λ (l : List (Option catalog.Version)) (row : ℕ). get_or l row None) list cur

-- ---- sweeps

-- what a call keeps that changes neither the history nor what the current version shows
pub record Keeps (old new : Store) : Type 0 where
  pub alone : IsOnlyOne old.store.versions.versions → IsOnlyOne new.store.versions.versions
  pub shown : current new.store ≡ current old.store
  pub sequence : new.store.sequence ≡ old.store.sequence
  pub limits : new.store.limits ≡ old.store.limits
  pub told : StaysTold old new
  pub left : LeavesNoOther old new
  pub faults : old.storage.faults ≤ new.storage.faults

pub keeps_all : (o : Store) → Keeps o o
keeps_all o = record { alone = λ a. a; shown = refl; sequence = refl; limits = refl; told = λ h is. is; left = leaves_here o; faults = omega arith }

pub keeps_both : (a b c : Store) → Keeps a b → Keeps b c → Keeps a c
keeps_both a b c k l = record {
  alone = λ x. l.alone (k.alone x);
  shown = l.shown ∙ k.shown;
  sequence = l.sequence ∙ k.sequence;
  limits = l.limits ∙ k.limits;
  told = λ h is. l.told h (k.told h is);
  left = leaves_both a b c k.told k.left l.left;
  faults = omega (arith, k.faults, l.faults);
}

pub stands_told : (old new : Store) → Told old.storage.disk new.storage.disk (Stands old.store new.store) → StaysTold old new
stands_told old new told h (disk, next, is, holds) =
    let by = told_of (Stands old.store new.store) old.storage.disk new.storage.disk disk is told in
    (by.0, next, by.1, by.2.behind h next holds)

module _ (old new : Store) (limits : new.store.limits ≡ old.store.limits) (sequence : new.store.sequence ≡ old.store.sequence) (told : Told old.storage.disk new.storage.disk (Stands old.store new.store)) where
  keeps_versions : new.store.versions.versions.versions ≡ old.store.versions.versions.versions → new.store.versions.versions.current ≡ old.store.versions.versions.current → old.storage.faults ≤ new.storage.faults → Keeps old new
  keeps_versions list cur faults = record {
    alone = alone_same old.store.versions.versions new.store.versions.versions list cur;
    shown = shown_same old.store.versions.versions new.store.versions.versions list cur;
    sequence = sequence;
    limits = limits;
    told = stands_told old new told;
    left = swept_leaves old new told;
    faults = faults;
  }

  counted_up : (result : Result Bool IoFault) → Counts old.storage.faults new.storage.faults result → old.storage.faults ≤ new.storage.faults
  counted_up (Ok done) counted = omega (arith, counted)
  counted_up (Err io.Failed) counted = counted.0
  counted_up (Err io.Memory) counted = omega (arith, counted)

  pub sweep_keeps : (result : Result Bool IoFault)
      → IfOk result (λ swept. swept ≡ true → (block : ℕ) × Sweeps old.store.versions.versions new.store.versions.versions block)
      → (result ≡ Ok false → (old.store.versions.versions.retired ≡ []) × (new ≡ old))
      → OnErr result (new.store.versions.versions ≡ old.store.versions.versions)
      → Counts old.storage.faults new.storage.faults result → Keeps old new
  sweep_keeps (Ok true) swept idle same counted = let s = (swept refl).1 in keeps_versions s.versions s.current (omega (arith, counted))
  sweep_keeps (Ok false) swept idle same counted = subst (Keeps old) (sym (idle refl).1) (keeps_all old)
  sweep_keeps (Err fault) swept idle same counted =
      keeps_versions (ap (λ (v : Versions). v.versions) same) (ap (λ (v : Versions). v.current) same) (counted_up (Err fault) counted)

-- the last sweep of a queue: it was empty, or the volume failed, or there was no memory
module _ (first old new : Store) (before : Keeps first old) where
  pub swept_all : {T : Type 0} (done : T) → (old.store.versions.versions.retired ≡ []) × (new ≡ old) → IsSwept (Ok done) first new
  swept_all done idle = ap (λ (o : Store). o.store.versions.versions.retired) idle.1 ∙ idle.0

  pub swept_fault : (T : Type 0) (fault : IoFault) → Counts {T = Bool} old.storage.faults new.storage.faults (Err fault) → IsSwept {T = T} (Err fault) first new
  swept_fault T io.Failed (most, inl less) = let le = before.faults in inl (omega (arith, le, less))
  swept_fault T io.Failed (most, inr last) = inr last
  swept_fault T io.Memory counted = tt

-- ---- publications

-- nothing stands against the publication of a merge of the one live version but the volume, its files and memory
pub of_volume : {T : Type 0} (result : Result T PublishFault) (v : Versions) (m : Merging) (cause : PublishFault) → result ≡ Err cause
    → ((n : ℕ) → (result ≡ Err (publish.Moved n)) ↔ IsMoved v m.base n) → ((result ≡ Err publish.NoRow) ↔ ((current_n v ≡ Some m.base) × IsFull v))
    → IsMergedOver v m → IsOnlyOne v → length v.versions ≡ 64 → IsOfVolume cause
of_volume result v m (publish.Moved n) is moved full (x, at, (es, contents, db, merged), extends) alone rows =
    let there = (moved n).0 is in
    there.1 (same (current_n v) there.0 (ap n_of at) ∙ sym merged.base)
  where
    same : (o : Option ℕ) → o ≡ Some n → o ≡ Some x.n → n ≡ x.n
    same o a b = cc
of_volume result v m publish.NoRow is moved full over alone rows =
    let live : All (λ (o : Option catalog.Version). is_some o ≡ true) v.versions = (full.0 is).1 in
    let row : (i : ℕ) → i < 2 → i ≡ v.current = λ i low. alone i (All-get_or (λ (o : Option catalog.Version). is_some o ≡ true) v.versions i None (omega (arith, low, rows)) live) in
    absurd (omega (arith, row 0 (omega arith), row 1 (omega arith)))
of_volume result v m publish.Vol is moved full over alone rows = tt
of_volume result v m (publish.Damaged file place) is moved full over alone rows = tt
of_volume result v m publish.Memory is moved full over alone rows = tt

-- a history stays told where its merge is published, and a version is let go
pub turned_told : (T : Type 0) (old mid new : Store) (row : T) (m : Merging) → Told old.storage.disk mid.storage.disk (PublishesMerged {T = T} (Ok row) old.store mid.store m)
    → new.storage ≡ mid.storage → ((h : List Entry) (next : Version) (disk : Disk) → IsStore mid.store h next disk → IsStore new.store h next disk)
    → (h : List Entry) → IsTold old h → IsNextOf old.store h m → IsTold new h
turned_told T old mid new row m told storage holds h (disk, next, is, stands) merged =
    let by = told_of (PublishesMerged {T = T} (Ok row) old.store mid.store m) old.storage.disk mid.storage.disk disk is told in
    (by.0, next, ap (λ (s : Storage). s.disk) storage ∙ by.1, holds h next by.0 (by.2.behind h next stands merged next))

-- nor is anything else told where it isn't
pub failed_told : (old new : Store) (cause : PublishFault) (m : Merging) → Told old.storage.disk new.storage.disk (PublishesMerged {T = ℕ} (Err cause) old.store new.store m)
    → (h : List Entry) → IsTold old h → IsNextOf old.store h m → IsTold new h
failed_told old new cause m told h (disk, next, is, stands) merged =
    let by = told_of (PublishesMerged {T = ℕ} (Err cause) old.store new.store m) old.storage.disk new.storage.disk disk is told in
    either by.0 by.1 next (by.2.behind h next stands merged)
  where
    either : (after : Disk) → new.storage.disk ≡ Some after → (next : Version) → IsStore new.store h next after ⊎ IsStore new.store h (next_version old.store m) after → IsTold new h
    either after at next (inl is) = (after, next, at, is)
    either after at next (inr is) = (after, next_version old.store m, at, is)

-- ---- drafts

-- what follows from one history follows from each
abbrev pub FromEach : (List Entry → Type 0) → Book → Option Disk → Type 0
FromEach P s o = IfSome o (λ disk. (h : List Entry) (next : Version) → IsStore s h next disk → P h)

pub from_each : (P Q : List Entry → Type 0) (s : Book) (o : Option Disk) → ((h : List Entry) → P h → Q h) → FromEach P s o → FromEach Q s o
from_each P Q s None weaker is = tt
from_each P Q s (Some disk) weaker is = λ h next holds. weaker h (is h next holds)

-- ---- damage of what rows are put behind

-- the fault of a round, and that of the publication from which it comes
damage_from : (cause : PublishFault) (answer : LogFault) (file at : ℕ) → answer ≡ fault_of cause → answer ≡ log.Damaged file at → cause ≡ publish.Damaged file at
damage_from (publish.Moved n) answer file at is same = cc
damage_from publish.NoRow answer file at is same = cc
damage_from publish.Vol answer file at is same = cc
damage_from (publish.Damaged other place) answer file at is same = cc
damage_from publish.Memory answer file at is same = cc

module _ (old : Store) (m : Merging) (result : Result ℕ PublishFault) (cause : PublishFault) (failed : result ≡ Err cause) (answer : LogFault) (from : answer ≡ fault_of cause) where
  module _ (file at : ℕ) (answered : answer ≡ log.Damaged file at) where
    pub published : result ≡ Err (publish.Damaged file at)
    published = failed ∙ ap Err (damage_from cause answer file at from answered)

    text_lost : (image : Image) → IsGrownLost old.store.versions.versions m.grown file at image → IsTailDamage old.store file at image
    text_lost image lost = record { table = lost.g.table; i = lost.g.part; of = lost.t; part = lost.p; there = lost.there; lost = lost.lost; none = lost.none }

    pub rows_damaged : IfSome old.storage.disk (λ disk. (file at : ℕ) → result ≡ Err (publish.Damaged file at) → IsGrownLost old.store.versions.versions m.grown file at (reads_of disk)) → IsGrowthDamaged old file at
    rows_damaged lost = by old.storage.disk lost
      where
        by : (o : Option Disk) → IfSome o (λ disk. (file at : ℕ) → result ≡ Err (publish.Damaged file at) → IsGrownLost old.store.versions.versions m.grown file at (reads_of disk)) → IfSome o (λ disk. IsTailDamage old.store file at (reads_of disk))
        by None lost = tt
        by (Some disk) lost = text_lost (reads_of disk) (lost file at published)

    -- which is never where the history is told
    pub never_damaged : (new : Store) (h : List Entry) → IsTold old h → Told old.storage.disk new.storage.disk (PublishesMerged result old.store new.store m) → ⊥
    never_damaged new h (disk, next, is, holds) told =
        let by = told_of (PublishesMerged result old.store new.store m) old.storage.disk new.storage.disk disk is told in
        subst IsUndamaged published (by.2.whole h next holds)

-- the same of a store that only was read meanwhile
pub rows_same : (a b : Store) → b.store ≡ a.store → b.storage.disk ≡ a.storage.disk → (file at : ℕ) → IsGrowthDamaged b file at → IsGrowthDamaged a file at
rows_same a b store disk file at damaged =
    subst (λ (s : Book). IfSome a.storage.disk (λ d. IsTailDamage s file at (reads_of d))) store
    (subst (λ (o : Option Disk). IfSome o (λ d. IsTailDamage b.store file at (reads_of d))) disk damaged)

pub untold : (o : Option (List Entry)) (owned : Store) → IfSome o (IsTold owned) → ((h : List Entry) → IsTold owned h → ⊥) → o ≡ None
untold None owned told never = refl
untold (Some h) owned told never = absurd (never h told)

-- that of a draft of all transactions behind the current version is one of a round over the store, which stays as it is
pub draft_damaged : (old new : Store) → new.store ≡ old.store → new.storage.disk ≡ old.storage.disk → (upto : ℕ) → upto ≡ length old.store.sequence.refs
    → (file at : ℕ) → IsDamageTold old (IsDraftDamage old.store upto) file at → IsRoundDamaged new file at
draft_damaged old new store disk upto all file at damaged = inl
    (subst (λ (s : Book). IfSome new.storage.disk (λ d. IsDraftDamage s (length s.sequence.refs) (reads_of d) file at)) (sym store)
    (subst (λ (o : Option Disk). IfSome o (λ d. IsDraftDamage old.store (length old.store.sequence.refs) (reads_of d) file at)) (sym disk)
    (subst (λ (n : ℕ). IsDamageTold old (IsDraftDamage old.store n) file at) all damaged)))

-- ---- rounds

-- a round shows more, and no more than was asked for
pub merged_on : (s : Book) (d : Drafted) (m : Merging) (upto : ℕ) → IsDraftOver s.versions.versions d → Merges d m → (d.plan.base < d.plan.upto) × (d.plan.upto ≤ upto) → (n_in (current s) < m.upto) × (m.upto ≤ upto)
merged_on s d m upto over merges bounds =
    let (x, at, into) = merged_into s.versions.versions d m over merges in
    let base : m.base ≡ n_in (current s) = into.3.base ∙ sym (ap n_in at) in
    let b = merged_bounds s.versions.versions d m upto over merges bounds in
    let goes = b.0 in
    (omega (arith, goes, base), b.1)

pub shown_next : (old mid new : Book) (m : Merging) → n_in (current old) < m.upto → current new ≡ Some (record { n = m.upto; shape = m.shape }) → n_in (current old) < n_in (current new)
shown_next old mid new m on is = let same : n_in (current new) ≡ m.upto = ap n_in is in omega (arith, on, same)

-- what rounds keep of a source, and what they change
pub record Rounded (old new : Parts) : Type 0 where
  pub alone : IsAlone new
  pub shown : n_in (current old.owned.store) ≤ n_in (current new.owned.store)
  pub sequence : new.owned.store.sequence ≡ old.owned.store.sequence
  pub limits : new.owned.store.limits ≡ old.owned.store.limits
  pub told : new.history ≡ old.history
  pub damages : new.damages ≡ old.damages
  pub stays : StaysTold old.owned new.owned
  pub left : LeavesNoOther old.owned new.owned
  pub faults : old.owned.storage.faults ≤ new.owned.storage.faults

pub rounded_here : (p : Parts) → IsAlone p → Rounded p p
rounded_here p alone = record {
  alone = alone;
  shown = omega arith;
  sequence = refl;
  limits = refl;
  told = refl;
  damages = refl;
  stays = λ h is. is;
  left = leaves_here p.owned;
  faults = omega arith;
}

-- behind one more, and behind all, or behind one that failed
module _ (a b : Parts) (r : Rounded a b) where
  same_count : length b.owned.store.sequence.refs ≡ length a.owned.store.sequence.refs
  same_count = ap (λ (s : Sequence). length s.refs) r.sequence

  pub rounded_next : (T E : Type 0) (done : T) (c : Parts) → ShowsNext {T = T} {E = E} (Ok done) b c → IsAlone c → StaysTold b.owned c.owned → LeavesNoOther b.owned c.owned → b.owned.storage.faults ≤ c.owned.storage.faults → Rounded a c
  rounded_next T E done c s alone stays left faults =
      let shown = r.shown in
      let more = s.shown in
      let before = r.faults in
      record {
        alone = alone;
        shown = omega (arith, shown, more);
        sequence = s.sequence ∙ r.sequence;
        limits = s.limits ∙ r.limits;
        told = s.told ∙ r.told;
        damages = s.damages ∙ r.damages;
        stays = λ h is. stays h (r.stays h is);
        left = leaves_both a.owned b.owned c.owned r.stays r.left left;
        faults = omega (arith, before, faults);
      }

  pub rounds_done : (E : Type 0) (n : ℕ) → n ≡ length a.owned.store.sequence.refs → n_in (current b.owned.store) ≡ n → ShowsAll {E = E} (Ok n) a b
  rounds_done E n all shown = record { shown = (all, shown); sequence = r.sequence; limits = r.limits; told = r.told; damages = r.damages }

  module _ (T E : Type 0) (fault : E) (c : Parts) (s : ShowsNext {T = T} (Err fault) b c) where
    pub rounds_failed : n_in (current b.owned.store) ≤ length b.owned.store.sequence.refs → ShowsAll (Err fault) a c
    rounds_failed within =
        let shown = r.shown in
        let same = s.shown in
        record {
          shown = (omega (arith, shown, same), omega (arith, same, within, same_count));
          sequence = s.sequence ∙ r.sequence;
          limits = s.limits ∙ r.limits;
          told = s.told ∙ r.told;
          damages = s.damages ∙ r.damages;
        }

  pub rounds_risen : (now : ℕ) → HasRisen b.owned.storage.faults now → HasRisen a.owned.storage.faults now
  rounds_risen now (inl less) = let before = r.faults in inl (omega (arith, before, less))
  rounds_risen now (inr last) = inr last
