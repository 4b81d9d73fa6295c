-- What a session over a store leaves of its volume.
use Rattle.std.proofs.Common.{◌≡◌, ◌∙◌, ◌⊎◌, ℕ, ◌≤◌, inl, inr, List, [], ◌∷◌, ◌++◌, Option, Some, None, IfSome, refl, sym, ap, subst, arith}
use Rattle.qd_base.specs.declared.op.Entry.{Entry}
use Rattle.qd_catalog.specs.declared.version.Version as catalog
use Rattle.qd_sequencer.specs.Histories.{IsPending}
use Rattle.qd_store.specs.Calls.{MayBe, MayShow, ShowsOneOf}
use Rattle.qd_store.specs.Found.{version_of}
use Rattle.qd_store.specs.Laws.{StoresAreWhole}
use Rattle.qd_store.specs.Owned.{Store}
use Rattle.qd_store.specs.Stores.{IsStore, Book}
use Rattle.qd_txnfile.specs.declared.half.Other.{Other}
use Rattle.qd_txnfile.specs.declared.half.Other.TheVariants as other
use Rattle.qd_txnfile.specs.States.{HasNext, IsDirty}
use Rattle.qd_txnfile.specs.Versions.{Version}
use Rattle.qd_versions.specs.Stores as versions
use Rattle.qd_versions.specs.Stores.{current_version, stored_version}
use Rattle.qd_volume.specs.Disk.{Disk, Image}
use Rattle.qd_store_backend.specs.Backs.{IsLeftOf, IsOnly, IsTold, current, n_in}
use Rattle.qd_store_backend.specs.Volumes.{Keeps, KeepsTold, Leaves}

-- the number of the current version, as the version files have it
number_of : (next : ℕ) (o : Option catalog.Version) → (stored_version next o).n ≡ n_in o
number_of next None = refl
number_of next (Some x) = refl

-- the version in the other file is newer
newer : (o : Other) (current next : Version) → IsDirty o → HasNext o current next → current.n ≤ next.n
newer (other.Opening n) current next dirty is = let more = is.newer in omega (arith, more)
newer (other.Written n) current next dirty is = absurd dirty
newer other.Older current next dirty is = absurd dirty
newer other.Closed current next dirty is = absurd dirty

module _ (s : Book) (h : List Entry) (next : Version) (disk : Disk) (holds : IsStore s h next disk) where
  shows_no_less : (v : Version) → MayShow s next v → n_in (current s) ≤ v.n
  shows_no_less v (inl is) =
      let same : v.n ≡ n_in (current s) = ap (λ (w : Version). w.n) is ∙ number_of s.versions.versions.next_block (current s) in
      omega (arith, same)
  shows_no_less v (inr (dirty, is)) =
      let more = newer s.versions.root.other (current_version s.versions.versions) next dirty holds.versions.rooted.root.follows in
      let same : v.n ≡ next.n = ap (λ (w : Version). w.n) is in
      let number = number_of s.versions.versions.next_block (current s) in
      omega (arith, more, same, number)

  left_is : (left : Option Entry) → IsOnly left (IsPending s.sequence.pending disk) → (found : List Entry) → MayBe h (IsPending s.sequence.pending disk) found → (found ≡ h) ⊎ ((more : Entry) × (left ≡ Some more) × (found ≡ h ++ more ∷ []))
  left_is left only found (inl is) = inl is
  left_is None only found (inr (e, pends, is)) = absurd (only e pends)
  left_is (Some x) only found (inr (e, pends, is)) = inr (e, ap (λ (y : Entry). Some y) (sym (only.1 e pends)), is)

  leaves_one : (left : Option Entry) → IsOnly left (IsPending s.sequence.pending disk) → (image : Image) → ShowsOneOf h (IsPending s.sequence.pending disk) (MayShow s next) image → Leaves h left (n_in (current s)) image
  leaves_one left only image one = record {
    found = one.found;
    finds = one.finds;
    is = left_is left only one.found.history one.history;
    applied_is = shows_no_less (version_of one.found) one.version;
  }

  keeps_one : StoresAreWhole → versions.IsStore s.versions → (left : Option Entry) → IsOnly left (IsPending s.sequence.pending disk) → Keeps h left (n_in (current s)) disk
  keeps_one law sound left only = record { whole = law.whole s h next disk sound holds; each = λ image now. leaves_one left only image (law.shows s h next disk sound holds image now) }

pub keeps_told : StoresAreWhole → (o : Store) → versions.IsStore o.store.versions → (history : Option (List Entry)) → IfSome history (IsTold o) → (left : Option Entry) → IsLeftOf history o left
    → IfSome history (λ h. KeepsTold o.storage.disk h left (n_in (current o.store)))
keeps_told law o sound None told left is = tt
keeps_told law o sound (Some h) (disk, next, at, holds) left is =
    subst (λ (d : Option Disk). KeepsTold d h left (n_in (current o.store))) (sym at) (keeps_one o.store h next disk holds law sound left (is disk at))
