-- What a write that failed may have left behind a history.
use Rattle.std.proofs.Common.{◌≡◌, ◌∙◌, ◌⊎◌, ℕ, inl, inr, List, [], ◌∷◌, Option, Some, None, IfSome, Result, Ok, refl, sym, ap, subst}
use Rattle.qd_base.specs.declared.op.Entry.{Entry}
use Rattle.qd_base.specs.declared.part.WalRef.{WalRef}
use Rattle.qd_base.specs.declared.request.Request.{Request}
use Rattle.qd_base.specs.declared.request.Reply.{Reply}
use Rattle.qd_durable.specs.Moments.{Told}
use Rattle.qd_sequencer.specs.Calls.{PendsAsBefore, PendsOwn}
use Rattle.qd_sequencer.specs.Histories.{HasPending, IsPending}
use Rattle.qd_sequencer.specs.Sequences.{Sequence}
use Rattle.qd_session.specs.Alone.{MayLeave, MayPend}
use Rattle.qd_session.specs.Looks.{Look}
use Rattle.qd_store.specs.Calls.{Commits, Stands}
use Rattle.qd_store.specs.declared.fault.PublishFault.{PublishFault}
use Rattle.qd_store.specs.Merges.{PublishesMerged}
use Rattle.qd_store.specs.Drafts.{IsNextOf, Merging}
use Rattle.qd_store.specs.Owned.{Store}
use Rattle.qd_store.specs.Stores.{IsStore, Book}
use Rattle.qd_store.proofs.OpenTold.{reads_now}
use Rattle.qd_txnfile.specs.Versions.{Version}
use Rattle.qd_volume.specs.Calls.{Storage}
use Rattle.qd_volume.specs.Disk.{Disk, reads_of}
use Rattle.qd_wal.specs.Laws.{OneEntryIsRead}
use Rattle.qd_wal.specs.Segments.{file_in}
use Rattle.qd_store_backend.specs.Backs.{IsLeftOf, IsOnly, IsTold, LeavesNoOther, LeavesOwn, left_of}
use Rattle.qd_store_backend.specs.Rounds.{IsNextFrom, StaysTold}
use Rattle.qd_store_backend.proofs.Told.{told_of}

-- ---- there is one

-- the entry that is pending is one
only_one : OneEntryIsRead → (pending : Option WalRef) (disk : Disk) (h : List Entry) → HasPending pending h disk → (left : Option Entry) × IsOnly left (IsPending pending disk)
only_one one None disk h has = (None, λ e p. p)
only_one one (Some ref) disk h (e, pends, lawful) = (Some e, (pends, λ x p. one (reads_of disk (file_in ref)) ref x e (p (reads_of disk) (reads_now disk)) (pends (reads_of disk) (reads_now disk))))

one_disk : (o : Option Disk) (a b : Disk) → o ≡ Some a → o ≡ Some b → a ≡ b
one_disk o a b x y = cc

left_there : OneEntryIsRead → (history : Option (List Entry)) (owned : Store) → IfSome history (IsTold owned) → (left : Option Entry) × IsLeftOf history owned left
left_there one None owned told = (None, refl)
left_there one (Some h) owned (disk, next, at, holds) =
    let o = only_one one owned.store.sequence.pending disk h holds.sequence.pending in
    (o.0, λ d there. subst (λ (x : Disk). IsOnly o.0 (IsPending owned.store.sequence.pending x)) (one_disk owned.storage.disk disk d at there) o.1)

-- as what only proofs keep
listed : Option Entry → Option (List Entry)
listed None = None
listed (Some e) = Some (e ∷ [])

left_of-listed : (left : Option Entry) → left_of (listed left) ≡ left
unfolding listed
left_of-listed None = refl
left_of-listed (Some e) = refl

pub kept_there : OneEntryIsRead → (history : Option (List Entry)) (owned : Store) → IfSome history (IsTold owned) → (then : Option (List Entry)) × IsLeftOf history owned (left_of then)
kept_there one history owned told =
    let l = left_there one history owned told in
    (listed l.0, subst (IsLeftOf history owned) (sym (left_of-listed l.0)) l.1)

-- over the same store and volume
pub left_same : (history : Option (List Entry)) (old new : Store) (left : Option Entry) → new.store ≡ old.store → new.storage.disk ≡ old.storage.disk → IsLeftOf history old left → IsLeftOf history new left
left_same None old new left store disk is = is
left_same (Some h) old new left store disk is = λ d there. subst (λ (s : Book). IsOnly left (IsPending s.sequence.pending d)) (sym store) (is d (sym disk ∙ there))

-- nothing is pending, and nothing is left
pub none_left : (h : List Entry) (owned : Store) (left : Option Entry) (e : Entry) (P : Type 0) → IsTold owned h → owned.store.sequence.pending ≡ None → IsLeftOf (Some h) owned left → left ≡ Some e → P
none_left h owned left e P (disk, next, at, holds) settled is there = by left there (is disk at)
  where
    by : (l : Option Entry) → l ≡ Some e → IsOnly l (IsPending owned.store.sequence.pending disk) → P
    by None same only = absurd (cc (same))
    by (Some x) same only = absurd (subst (λ (o : Option WalRef). IsPending o disk x) settled only.0)

pub settled_left : (history : Option (List Entry)) (owned : Store) (left : Option Entry) → IfSome history (IsTold owned) → owned.store.sequence.pending ≡ None → IsLeftOf history owned left → left ≡ None
settled_left None owned left told settled is = is
settled_left (Some h) owned None told settled is = refl
settled_left (Some h) owned (Some e) told settled is = none_left h owned (Some e) e (Some e ≡ None) told settled is refl

-- ---- calls

-- an entry that is pending is the one that may be left
is_left : (left : Option Entry) (P : Entry → Type 0) (e : Entry) → IsOnly left P → P e → left ≡ Some e
is_left None P e only p = absurd (only e p)
is_left (Some x) P e only p = ap (λ (y : Entry). Some y) (sym (only.1 e p))

left_pends : (left : Option Entry) (P : Entry → Type 0) (e : Entry) → IsOnly left P → left ≡ Some e → P e
left_pends None P e only is = absurd (cc (is))
left_pends (Some x) P e only is = let same : x ≡ e = cc (is) in subst P same only.0

-- what is left behind a call was left before it, or is its own
pub left_own : (Own : Entry → Type 0) (h : List Entry) (old new : Store) (left left' : Option Entry) → IsTold old h → (g : List Entry) → IsTold new g → IsLeftOf (Some h) old left → IsLeftOf (Some g) new left' → LeavesOwn old new Own
    → (e : Entry) → left' ≡ Some e → (left ≡ Some e) ⊎ Own e
left_own Own h old new left left' (disk, next, at, holds) g (later, last, there, stands) was is leaves e there_is =
    let pends = left_pends left' (IsPending new.store.sequence.pending later) e (is later there) there_is in
    by (leaves h next disk later at holds there) pends
  where
    by : PendsOwn old.store.sequence.pending new.store.sequence.pending Own disk later → IsPending new.store.sequence.pending later e → (left ≡ Some e) ⊎ Own e
    by (inl before) pends = inl (is_left left (IsPending old.store.sequence.pending disk) e (was disk at) (before e pends))
    by (inr own) pends = inr (own e pends)

pub left_before : (h : List Entry) (old new : Store) (left left' : Option Entry) → IsTold old h → IsTold new h → IsLeftOf (Some h) old left → IsLeftOf (Some h) new left' → LeavesNoOther old new → (e : Entry) → left' ≡ Some e → left ≡ Some e
left_before h old new left left' (disk, next, at, holds) (later, last, there, stands) was is leaves e there_is =
    is_left left (IsPending old.store.sequence.pending disk) e (was disk at) (leaves h next disk later at holds there e (left_pends left' (IsPending new.store.sequence.pending later) e (is later there) there_is))

-- ---- no other is left

pub leaves_same : (a b c : Store) → b.store ≡ a.store → b.storage.disk ≡ a.storage.disk → LeavesNoOther b c → LeavesNoOther a c
leaves_same a b c store disk leaves h next d later at holds there =
    subst (λ (s : Book). PendsAsBefore s.sequence.pending c.store.sequence.pending d later) store
    (leaves h next d later (disk ∙ at) (subst (λ (s : Book). IsStore s h next d) (sym store) holds) there)

pub leaves_here : (a : Store) → LeavesNoOther a a
leaves_here a h next d later at holds there e pends = subst (λ (x : Disk). IsPending a.store.sequence.pending x e) (one_disk a.storage.disk later d there at) pends

pub leaves_still : (a b : Store) → b.store ≡ a.store → b.storage.disk ≡ a.storage.disk → LeavesNoOther a b
leaves_still a b store disk = leaves_same a b b store disk (leaves_here b)

pub leaves_both : (a b c : Store) → StaysTold a b → LeavesNoOther a b → LeavesNoOther b c → LeavesNoOther a c
leaves_both a b c told first second h next d later at holds there =
    let (mid, last, on, stands) = told h (d, next, at, holds) in
    λ e pends. first h next d mid at holds on e (second h last mid later on stands there e pends)

-- a call that a store says this of
module _ (Change : Disk → Disk → Type 0) (old new : Store) (told : Told old.storage.disk new.storage.disk Change) where
  changed_to : (disk later : Disk) → old.storage.disk ≡ Some disk → new.storage.disk ≡ Some later → Change disk later
  changed_to disk later at there =
      let by = told_of Change old.storage.disk new.storage.disk disk at told in
      subst (Change disk) (one_disk new.storage.disk by.0 later by.1 there) by.2

pub swept_leaves : (old new : Store) → Told old.storage.disk new.storage.disk (Stands old.store new.store) → LeavesNoOther old new
swept_leaves old new told h next disk later at holds there = (changed_to (Stands old.store new.store) old new told disk later at there).pending h next holds

pub committed_leaves : (T E : Type 0) (r : Result T E) (old new : Store) (Own : Entry → Type 0) → Told old.storage.disk new.storage.disk (Commits r old.store new.store Own) → LeavesOwn old new Own
committed_leaves T E r old new Own told h next disk later at holds there = (changed_to (Commits r old.store new.store Own) old new told disk later at there).pending h next holds

-- a publication, and a version that is let go behind it
pub turned_leaves : (T : Type 0) (r : Result T PublishFault) (old mid new : Store) (m : Merging) → Told old.storage.disk mid.storage.disk (PublishesMerged r old.store mid.store m) → new.storage.disk ≡ mid.storage.disk → new.store.sequence ≡ mid.store.sequence → LeavesNoOther old new
turned_leaves T r old mid new m told disk sequence h next d later at holds there =
    subst (λ (s : Sequence). PendsAsBefore old.store.sequence.pending s.pending d later) (sym sequence)
    ((changed_to (PublishesMerged r old.store mid.store m) old mid told d later at (sym disk ∙ there)).pending h next holds)

-- ---- the rule of a session

pub pends_by : (o : Option (List Entry)) (before now : Look) (time : ℕ) (asked : Request) (given : Reply) → ((h : List Entry) → o ≡ Some h → (e : Entry) → now.pending ≡ Some e → MayLeave h before now time asked given e) → MayPend o before now time asked given
pends_by None before now time asked given f = tt
pends_by (Some h) before now time asked given f = f h refl

-- what is told of a history that is known
pub told_at : (P : List Entry → Type 0) (o : Option (List Entry)) (h : List Entry) → o ≡ Some h → IfSome o P → P h
told_at P o h is told = subst (λ (x : Option (List Entry)). IfSome x P) is told

-- ---- what stays told behind a round

pub told_still : (a b : Store) → b.store ≡ a.store → b.storage.disk ≡ a.storage.disk → StaysTold a b
told_still a b store disk h (d, next, at, holds) = (d, next, disk ∙ at, subst (λ (s : Book). IsStore s h next d) (sym store) holds)

pub told_next : (old mid new : Store) (m : Merging) → IfSome old.storage.disk (λ disk. (h : List Entry) (next : Version) → IsStore old.store h next disk → IsNextFrom (Ok m) old.store h) → mid.store ≡ old.store → mid.storage.disk ≡ old.storage.disk
    → ((h : List Entry) → IsTold mid h → IsNextOf mid.store h m → IsTold new h) → StaysTold old new
told_next old mid new m from store disk turns h (d, next, at, holds) =
    let merged : IsNextOf old.store h m = subst (λ (o : Option Disk). IfSome o (λ disk. (h : List Entry) (next : Version) → IsStore old.store h next disk → IsNextFrom (Ok m) old.store h)) at from h next holds in
    turns h (told_still old mid store disk h (d, next, at, holds)) (subst (λ (s : Book). IsNextOf s h m) (sym store) merged)
