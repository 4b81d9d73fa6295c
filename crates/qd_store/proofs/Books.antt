-- The invariant of a store, behind calls that keep its versions, or their rows.
use Rattle.std.proofs.Common.{◌≡◌, ℕ, ◌+◌, ◌<◌, ◌≤◌, List, [], ◌∷◌, ◌++◌, length, length-append, Some, Result, Ok, Err, OnErr, OnOk, sym, subst, arith}
use Rattle.qd_base.specs.declared.part.WalRef.{WalRef}
use Rattle.qd_catalog.specs.declared.version.Version as catalog
use Rattle.qd_catalog.specs.Versions.{version_at}
use Rattle.qd_sequencer.specs.Sequences.{IsAsBefore}
use Rattle.qd_versions.specs.Stores as versions
use Rattle.qd_store.specs.Stores.{AreLimits, Book, IsBook}
use Rattle.qd_base.specs.declared.limits.TheConstants.{MAX_TXNS}

module _ (old new : Book) (book : IsBook old) (limits : new.limits ≡ old.limits) where
  -- as many transactions as before, and no more versions
  pub book_same : new.sequence.refs ≡ old.sequence.refs
      → ((row : ℕ) (x : catalog.Version) → version_at new.versions.versions row ≡ Some x → version_at old.versions.versions row ≡ Some x) → IsBook new
  book_same refs rows = record {
    limits = subst AreLimits (sym limits) book.limits;
    few = subst (λ (l : List WalRef). length l ≤ MAX_TXNS) (sym refs) book.few;
    shown = λ row x at. subst (λ (l : List WalRef). x.n ≤ length l) (sym refs) (book.shown row x (rows row x at));
  }

  module _ (same : new.versions ≡ old.versions) where
    was_there : (row : ℕ) (x : catalog.Version) → version_at new.versions.versions row ≡ Some x → version_at old.versions.versions row ≡ Some x
    was_there row x at = subst (λ (v : versions.Store). version_at v.versions row ≡ Some x) same at

    -- one transaction more, where there was room for it
    book_longer : (ref : WalRef) → new.sequence.refs ≡ old.sequence.refs ++ ref ∷ [] → length old.sequence.refs < old.limits.max_txns → IsBook new
    book_longer ref refs room = record {
      limits = subst AreLimits (sym limits) book.limits;
      few = omega (arith, long, room, book.limits.most);
      shown = λ row x at. let low = book.shown row x (was_there row x at) in omega (arith, long, low);
    }
      where
        long : length new.sequence.refs ≡ length old.sequence.refs + 1
        long = subst (λ (l : List WalRef). length l ≡ length old.sequence.refs + 1) (sym refs) (length-append old.sequence.refs (ref ∷ []))

    -- behind a commit
    pub book_committed : {T E : Type 0} (result : Result T E) (ref : WalRef) → OnOk result (new.sequence.refs ≡ old.sequence.refs ++ ref ∷ [])
        → OnOk result (length old.sequence.refs < old.limits.max_txns) → OnErr result (IsAsBefore old.sequence new.sequence) → IsBook new
    book_committed (Ok done) ref refs room stays = book_longer ref refs room
    book_committed (Err fault) ref refs room stays = book_same stays.refs was_there
