-- What the calls of a store make of a desk.
use Rattle.std.proofs.Common.{◌≡◌, ◌↔◌, ◌∙◌, ℕ, ◌+◌, ◌≤◌, List, length, Option, Some, None, IfSome, Result, Ok, Err, refl, sym, ap, arith, length-append}
use Rattle.qd_base.specs.declared.limits.Limits.{Limits}
use Rattle.qd_base.specs.declared.op.Entry.{Entry}
use Rattle.qd_base.specs.Replay.{first}
use Rattle.qd_catalog.specs.declared.version.Version as catalog
use Rattle.qd_catalog.specs.Versions.{Versions, current_n, n_of, version_at}
use Rattle.qd_durable.specs.Moments.{Told}
use Rattle.qd_sequencer.specs.declared.fault.CommitFault.{CommitFault}
use Rattle.qd_sequencer.specs.declared.fault.Committed.{Committed}
use Rattle.qd_sequencer.specs.Faults.{CountsFault}
use Rattle.qd_sequencer.specs.Sequences.{Sequence}
use Rattle.qd_store.specs.declared.fault.PublishFault.{PublishFault}
use Rattle.qd_store.specs.declared.fault.PublishFault.TheVariants as publish
use Rattle.qd_store.specs.Arriving.{IsPlaced}
use Rattle.qd_store.specs.Calls as calls
use Rattle.qd_store.specs.Drafts.{IsMergedOver, Merging}
use Rattle.qd_store.specs.Faults.{IsMoved}
use Rattle.qd_store.specs.Owned.{Store}
use Rattle.qd_versions.specs.Publishing.{IsFull}
use Rattle.qd_wal.specs.Laws.{OneEntryIsRead}
use Rattle.qd_store_backend.specs.Backs.{IsNextTold, IsTold}
use Rattle.qd_store_backend.specs.Rounds.{StaysTold}
use Rattle.qd_store_backend.proofs.Commits.{told_behind}
use Rattle.qd_store_backend.proofs.ToldOf.{told_count, told_schemas}
use Rattle.qd_shared.specs.declared.rounds.RoundFault.{RoundFault}
use Rattle.qd_shared.specs.declared.rounds.RoundFault.TheVariants as fault
use Rattle.qd_shared.specs.Commits.{Asked, CommitsTo, IsCounted}
use Rattle.qd_shared.specs.Desks.{Desk, IsDesk}
use Rattle.qd_shared.specs.Publishing.{publishes_fault}
use Rattle.qd_shared.specs.Snaps.{AreHeld}
use Rattle.qd_shared.proofs.Committing.{placed_places}

pub counted_of : (d : Desk) → IsDesk d → IsCounted d
counted_of d is = record { schemas = told_schemas d.owned d.history is.told; count = told_count d.owned d.history is.told }

-- ---- commits

placed_count : (limits : Limits) (old new : Sequence) (writer : Option ℕ) → IsPlaced limits old new writer → length new.refs ≡ length old.refs + 1
placed_count limits old new writer placed = omega (arith, simp length-append at (ap length placed.refs))

module _ (asked : Asked) (old : Desk) (owned : Store) (is : IsDesk old) where
  Own : Entry → Type 0
  Own = asked.Own old.owned.store.sequence.schemas

  pub commits_done : (done : Committed) (then : Option (List Entry)) (writer : Option ℕ) → OneEntryIsRead → IsPlaced old.owned.store.limits old.owned.store.sequence owned.store.sequence writer
      → done.n ≡ length owned.store.sequence.refs → owned.store.versions ≡ old.owned.store.versions → owned.store.limits ≡ old.owned.store.limits
      → Told old.owned.storage.disk owned.storage.disk (calls.Commits {T = Committed} {E = CommitFault} (Ok done) old.owned.store owned.store (asked.Own old.owned.store.sequence.schemas)) → IsNextTold old.history owned then
      → CountsFault {T = Committed} old.owned.storage.faults owned.storage.faults (Ok done)
      → CommitsTo asked (Ok done) old (record { owned = owned; history = then; removed = old.removed })
  commits_done done then writer one placed number versions limits told next faults = record {
    kept = is;
    counted = counted_of old is;
    count = placed_count old.owned.store.limits old.owned.store.sequence owned.store.sequence writer placed;
    number = number;
    places = placed_places old.owned.store.limits old.owned.store.sequence owned.store.sequence writer placed;
    told = told_behind Committed CommitFault old.owned owned (asked.Own old.owned.store.sequence.schemas) done told one old.history then is.told next;
    versions = versions;
    limits = limits;
    removed = refl;
    causes = tt;
    faults = faults;
  }

-- ---- versions

pub snap_held : (o : Option (List Entry)) (owned : Store) (row : ℕ) (x : catalog.Version) → version_at owned.store.versions.versions row ≡ Some x → IfSome o (IsTold owned) → IfSome o (λ h. (x.n ≤ length h) × AreHeld x.shape (first h x.n))
snap_held None owned row x at told = tt
snap_held (Some h) owned row x at (disk, next, same, is) = let shown = is.versions.live row x at in (shown.few, (shown.blocks, shown.stands))

-- a publication into the current version finds no other one
pub unmoved : {T : Type 0} (result : Result T PublishFault) (v : Versions) (m : Merging) (cause : PublishFault) → result ≡ Err cause
    → ((n : ℕ) → (result ≡ Err (publish.Moved n)) ↔ IsMoved v m.base n) → IsMergedOver v m → (n : ℕ) → cause ≡ publish.Moved n → ⊥
unmoved result v m cause is moved (x, at, (es, contents, db, merged), extends) n by =
    let there = (moved n).0 (is ∙ ap (λ (c : PublishFault). Err c) by) in
    there.1 (same (current_n v) there.0 (ap n_of at) ∙ sym merged.base)
  where
    same : (o : Option ℕ) → o ≡ Some n → o ≡ Some x.n → n ≡ x.n
    same o a b = cc

-- that there is no row is told by a publication that found all rows live
pub no_row : {T : Type 0} (result : Result T PublishFault) (v : Versions) (base : ℕ) (cause : PublishFault) (told : RoundFault) → result ≡ Err cause → told ≡ publishes_fault cause
    → ((result ≡ Err publish.NoRow) ↔ ((current_n v ≡ Some base) × IsFull v)) → ((n : ℕ) → cause ≡ publish.Moved n → ⊥) → told ≡ fault.NoRow → IsFull v
no_row result v base (publish.Moved n) told is named full apart none = absurd (apart n refl)
no_row result v base publish.NoRow told is named full apart none = (full.0 is).1
no_row result v base (publish.Damaged file at) told is named full apart none = absurd (let a = named in cc (a, none))
no_row result v base publish.Vol told is named full apart none = absurd (let a = named in cc (a, none))
no_row result v base publish.Memory told is named full apart none = absurd (let a = named in cc (a, none))

-- what is told of a store, where it is, stays told
pub stays_told : (o : Option (List Entry)) (old new : Store) → StaysTold old new → IfSome o (IsTold old) → IfSome o (IsTold new)
stays_told None old new stays told = tt
stays_told (Some h) old new stays told = stays h told
