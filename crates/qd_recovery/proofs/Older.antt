-- The version that an image gives shows no fewer transactions than the current one of the store.
use Rattle.std.proofs.Common.{◌≡◌, inl, inr, ℕ, ◌<◌, List, Option, Some, None, sym, ◌∙◌, ap, subst, arith}
use Rattle.qd_base.specs.declared.op.Entry.{Entry}
use Rattle.qd_catalog.specs.declared.version.Version as catalog
use Rattle.qd_catalog.specs.Versions.{n_of, version_at}
use Rattle.qd_txnfile.specs.declared.half.Other.{Other}
use Rattle.qd_txnfile.specs.declared.half.Other.TheVariants as other
use Rattle.qd_txnfile.specs.States.{HasNext, IsDirty}
use Rattle.qd_txnfile.specs.Versions.{Version}
use Rattle.qd_versions.specs.Stores.{current_version, stored_version}
use Rattle.qd_volume.specs.Disk.{Disk}
use Rattle.qd_store.specs.Calls.{MayShow}
use Rattle.qd_store.specs.Drafts.{IsNextOf, Merging}
use Rattle.qd_store.specs.Merges.{next_version}
use Rattle.qd_store.specs.Stores.{Book, IsStore}
use Rattle.qd_recovery.specs.Runs.{IsNoOlder}

same_number : (a b : ℕ) → Some a ≡ Some b → a ≡ b
same_number a b same = cc

-- the current version's number
current_number : (row : Option catalog.Version) (next n : ℕ) → n_of row ≡ Some n → (stored_version next row).n ≡ n
current_number None next n at = cc
current_number (Some x) next n at = same_number x.n n at

current_is_no_older : (s : Book) → IsNoOlder s (current_version s.versions.versions)
current_is_no_older s n at = omega (arith, current_number (version_at s.versions.versions s.versions.versions.current) s.versions.versions.next_block n at)

-- one that may have been left is newer
left_is_newer : (known : Other) (current next : Version) → HasNext known current next → IsDirty known → current.n < next.n
left_is_newer (other.Opening n) current next has dirty = has.newer
left_is_newer other.Older current next has dirty = absurd dirty
left_is_newer other.Closed current next has dirty = absurd dirty
left_is_newer (other.Written n) current next has dirty = absurd dirty

pub shown_is_no_older : (s : Book) (h : List Entry) (next : Version) (disk : Disk) → IsStore s h next disk → (v : Version) → MayShow s next v → IsNoOlder s v
shown_is_no_older s h next disk is v (inl same) = subst (IsNoOlder s) (sym same) (current_is_no_older s)
shown_is_no_older s h next disk is v (inr (dirty, same)) = subst (IsNoOlder s) (sym same) (no_older (left_is_newer s.versions.root.other (current_version s.versions.versions) next is.versions.rooted.root.follows dirty))
  where
    no_older : (current_version s.versions.versions).n < next.n → IsNoOlder s next
    no_older newer n at = omega (arith, newer, current_is_no_older s n at)

-- and so is the one that a publication makes
pub merged_is_no_older : (s : Book) (h : List Entry) (m : Merging) → IsNextOf s h m → (v : Version) → v ≡ next_version s m → IsNoOlder s v
merged_is_no_older s h m (x, contents, current, merged) v same n at =
    let number : x.n ≡ n = same_number x.n n (sym (ap n_of current) ∙ at) in
    omega (arith, number, merged.upto, ap (λ (w : Version). w.n) same)
