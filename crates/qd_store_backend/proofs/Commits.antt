-- What is told of a store behind a commit.
use Rattle.std.proofs.Common.{◌≡◌, ◌∙◌, ℕ, ◌+◌, List, [], ◌∷◌, ◌++◌, length, Option, None, Some, Ok, Err, IfSome, refl, sym, ap, subst, arith, length-append}
use Rattle.qd_base.specs.declared.op.Entry.{Entry}
use Rattle.qd_base.specs.declared.limits.Limits.{Limits}
use Rattle.qd_durable.specs.Moments.{Told}
use Rattle.qd_sequencer.specs.Sequences.{Sequence}
use Rattle.qd_catalog.specs.Versions.{version_at}
use Rattle.qd_manifest.specs.Spelling.{schemas_in}
use Rattle.qd_store.specs.Arriving.{IsPlaced}
use Rattle.qd_store.specs.Calls.{Commits}
use Rattle.qd_store.specs.Owned.{Store}
use Rattle.qd_store.specs.Stores.{IsStore}
use Rattle.qd_store.proofs.OpenTold.{reads_now}
use Rattle.qd_volume.specs.Disk.{Disk, reads_of}
use Rattle.qd_versions.specs.Stores as versions
use Rattle.qd_wal.specs.Laws.{OneEntryIsRead}
use Rattle.qd_store_backend.specs.Backs.{CommitsTo, IsNextTold, IsParts, IsTold, IsToldBehind, Parts, shape_in}
use Rattle.qd_store_backend.proofs.Told.{histories_one, told_of}

-- two histories that are told of a store are one
told_one : OneEntryIsRead → (o : Store) (g h : List Entry) → IsTold o g → IsTold o h → g ≡ h
told_one one o g h (disk, next, is, holds) (other, last, also, stands) =
    let same : disk ≡ other = by o.storage.disk is also in
    let stood : IsStore o.store h last disk = subst (λ (d : Disk). IsStore o.store h last d) (sym same) stands in
    histories_one one (reads_of disk) o.store.sequence.refs g h (holds.sequence.spelled (reads_of disk) (reads_now disk)) (stood.sequence.spelled (reads_of disk) (reads_now disk))
  where
    by : (d : Option Disk) → d ≡ Some disk → d ≡ Some other → disk ≡ other
    by d a b = cc

module _ (T E : Type 0) (old new : Store) (Own : Entry → Type 0) where
  module _ (done : T) (told : Told old.storage.disk new.storage.disk (Commits {T = T} {E = E} (Ok done) old.store new.store Own)) where
    -- the history with the transaction
    committed : (h : List Entry) → IsTold old h → (e : Entry) × Own e × IsTold new (h ++ e ∷ [])
    committed h (disk, next, is, holds) =
        let by = told_of (Commits {T = T} {E = E} (Ok done) old.store new.store Own) old.storage.disk new.storage.disk disk is told in
        let b = by.2.behind h next holds in
        (b.0, b.1, (by.0, next, by.1, b.2))

    pub next_told : (history : Option (List Entry)) → IfSome history (IsTold old) → (then : Option (List Entry)) × IsNextTold history new then
    next_told None is = (None, refl)
    next_told (Some h) is = let c = committed h is in (Some (h ++ c.0 ∷ []), (c.0, refl, c.2))

    pub told_behind : OneEntryIsRead → (history then : Option (List Entry)) → IfSome history (IsTold old) → IsNextTold history new then → IsToldBehind {T = T} {E = E} (Ok done) history then Own
    told_behind one None then is next = next
    told_behind one (Some h) then is (e, at, next) =
        let c = committed h is in
        (c.0, c.1, at ∙ ap (λ (l : List Entry). Some l) (told_one one new (h ++ e ∷ []) (h ++ c.0 ∷ []) next c.2))

  -- where nothing is committed, it stays
  pub still_told : (fault : E) → Told old.storage.disk new.storage.disk (Commits {T = T} {E = E} (Err fault) old.store new.store Own) → (history : Option (List Entry)) → IfSome history (IsTold old) → IfSome history (IsTold new)
  still_told fault told None is = tt
  still_told fault told (Some h) (disk, next, is, holds) =
      let by = told_of (Commits {T = T} {E = E} (Err fault) old.store new.store Own) old.storage.disk new.storage.disk disk is told in
      (by.0, next, by.1, by.2.behind h next holds)

-- a transaction is put behind the others
placed_count : (limits : Limits) (old new : Sequence) (writer : Option ℕ) → IsPlaced limits old new writer → length new.refs ≡ length old.refs + 1
placed_count limits old new writer placed = omega (arith, simp length-append at (ap length placed.refs))

pub commits_to : (T E : Type 0) (old : Parts) (owned : Store) (then : Option (List Entry)) (Own : Entry → Type 0) (done : T) (writer : Option ℕ)
    → OneEntryIsRead → IfSome old.history (IsTold old.owned)
    → IsPlaced old.owned.store.limits old.owned.store.sequence owned.store.sequence writer → owned.store.versions ≡ old.owned.store.versions → owned.store.limits ≡ old.owned.store.limits
    → Told old.owned.storage.disk owned.storage.disk (Commits {T = T} {E = E} (Ok done) old.owned.store owned.store Own) → IsNextTold old.history owned then
    → CommitsTo {T = T} {E = E} (Ok done) old (record { owned = owned; history = then; schemas = old.schemas; damages = old.damages; last_damage = None }) Own
commits_to T E old owned then Own done writer one told placed versions limits commits next = record {
  count = placed_count old.owned.store.limits old.owned.store.sequence owned.store.sequence writer placed;
  versions = versions;
  limits = limits;
  told = told_behind T E old.owned owned Own done commits one old.history then told next;
  damages = refl;
}

-- a source whose store commits nothing keeps what it is
pub still_parts : (T E : Type 0) (old : Parts) (owned : Store) (Own : Entry → Type 0) (fault : E) → IsParts old → owned.store.versions ≡ old.owned.store.versions
    → Told old.owned.storage.disk owned.storage.disk (Commits {T = T} {E = E} (Err fault) old.owned.store owned.store Own)
    → IsParts (record { owned = owned; history = old.history; schemas = old.schemas; damages = old.damages; last_damage = None })
still_parts T E old owned Own fault is same told = record {
  schemas = is.schemas ∙ sym (ap (λ (v : versions.Store). schemas_in (shape_in (version_at v.versions v.versions.current))) same);
  told = still_told T E old.owned owned Own fault told old.history is.told;
  whole = is.whole;
  damage = tt;
}

-- and so does one whose store commits a transaction
pub next_parts : (old : Parts) (owned : Store) (then : Option (List Entry)) → IsParts old → owned.store.versions ≡ old.owned.store.versions → IsNextTold old.history owned then
    → IsParts (record { owned = owned; history = then; schemas = old.schemas; damages = old.damages; last_damage = None })
next_parts old owned then is same next = record {
  schemas = is.schemas ∙ sym (ap (λ (v : versions.Store). schemas_in (shape_in (version_at v.versions v.versions.current))) same);
  told = told old.history then next;
  whole = λ h at. whole old.history then next is.whole h at;
  damage = tt;
}
  where
    told : (o t : Option (List Entry)) → IsNextTold o owned t → IfSome t (IsTold owned)
    told None t next = subst (λ (x : Option (List Entry)). IfSome x (IsTold owned)) (sym next) tt
    told (Some h) t (e, is, next) = subst (λ (x : Option (List Entry)). IfSome x (IsTold owned)) (sym is) next

    whole : (o t : Option (List Entry)) → IsNextTold o owned t → ((h : List Entry) → o ≡ Some h → old.damages ≡ 0) → (h : List Entry) → t ≡ Some h → old.damages ≡ 0
    whole None t next before h at = let none = next in cc
    whole (Some g) t next before h at = before g refl
