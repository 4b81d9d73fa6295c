-- What retiring and sweeping leave of a store.
use Rattle.std.proofs.Common.{◌≡◌, ◌≢◌, ◌⊎◌, inl, inr, ℕ, zero, suc, ◌≤◌, true, List, [], ◌∷◌, Option, Some, None, refl, sym, ◌∙◌, ap, subst, get_or}
use Rattle.std.specs.Prelude.{slice_set}
use Rattle.qd_base.specs.declared.op.Entry.{Entry}
use Rattle.qd_catalog.specs.declared.version.Version as catalog
use Rattle.qd_catalog.specs.Versions.{Retires, lists, version_at}
use Rattle.qd_txnfile.specs.States.{IsDirty}
use Rattle.qd_txnfile.specs.Versions.{Version}
use Rattle.qd_versions.specs.Kept.{KeepsTails}
use Rattle.qd_versions.specs.Stores as versions
use Rattle.qd_versions.specs.Stores.{IsRooted, current_version, stored_version}
use Rattle.qd_volume.specs.Disk.{Disk}
use Rattle.qd_store.specs.Stores.{HasVersions}

-- ---- a row is freed

-- the rows but one are as before
set_other : {X : Type 0} (xs : List X) (i j : ℕ) (x d : X) → i ≢ j → get_or (slice_set xs i x) j d ≡ get_or xs j d
set_other [] i j x d apart = refl
set_other (y ∷ ys) zero zero x d apart = absurd (apart refl)
set_other (y ∷ ys) zero (suc j) x d apart = refl
set_other (y ∷ ys) (suc i) zero x d apart = refl
set_other (y ∷ ys) (suc i) (suc j) x d apart = set_other ys i j x d (λ e. apart (ap suc e))

-- and the one is free
set_none : (xs : List (Option catalog.Version)) (i j : ℕ) (x : catalog.Version) → get_or (slice_set xs i None) j None ≡ Some x → get_or xs j None ≡ Some x
set_none [] i j x at = at
set_none (y ∷ ys) zero zero x at = cc
set_none (y ∷ ys) zero (suc j) x at = at
set_none (y ∷ ys) (suc i) zero x at = at
set_none (y ∷ ys) (suc i) (suc j) x at = set_none ys i j x at

-- the versions that are live now were live before
pub was_live : (old new : versions.Store) (row : ℕ) → Retires old.versions new.versions row → (r : ℕ) (x : catalog.Version) → version_at new.versions r ≡ Some x → version_at old.versions r ≡ Some x
was_live old new row retired r x at = set_none old.versions.versions row r x (subst (λ (l : List (Option catalog.Version)). get_or l r None ≡ Some x) retired.versions at)

module _ (old new : versions.Store) (row : ℕ) (h : List Entry) (next : Version) (disk : Disk) (retired : Retires old.versions new.versions row) (older : row ≢ old.versions.current) (root : new.root ≡ old.root) where
  current_row : version_at new.versions new.versions.current ≡ version_at old.versions old.versions.current
  current_row =
      ap (λ (n : ℕ). version_at new.versions n) retired.current
      ∙ ap (λ (l : List (Option catalog.Version)). get_or l old.versions.current None) retired.versions
      ∙ set_other old.versions.versions row old.versions.current None None older

  current_same : current_version new.versions ≡ current_version old.versions
  current_same =
      ap (λ (n : ℕ). stored_version n (version_at new.versions new.versions.current)) retired.next_block
      ∙ ap (stored_version old.versions.next_block) current_row

  pub retired_versions : (KeepsTails old disk → KeepsTails new disk) → HasVersions old h next disk → HasVersions new h next disk
  retired_versions tails has = record {
    made = has.made;
    rooted = record { root = subst (λ (v : Version). Rattle.qd_txnfile.specs.States.Knows new.root v next disk) (sym current_same) (subst (λ (r : Rattle.qd_txnfile.specs.States.Root). Rattle.qd_txnfile.specs.States.Knows r (current_version old.versions) next disk) (sym root) has.rooted.root) };
    pending = λ dirty. let p = has.pending (subst (λ (r : Rattle.qd_txnfile.specs.States.Root). IsDirty r.other) root dirty) in record {
      left = p.left;
      blocks = λ b in_shape. by b (p.blocks b in_shape);
    };
    live = λ r x at. has.live r x (was_live old new row retired r x at);
    kept = tails has.kept;
  }
    where
      by : (b : ℕ) → (lists (version_at old.versions old.versions.current) b ≡ true) ⊎ (old.versions.next_block ≤ b) → (lists (version_at new.versions new.versions.current) b ≡ true) ⊎ (new.versions.next_block ≤ b)
      by b (inl listed) = inl (subst (λ (o : Option catalog.Version). lists o b ≡ true) (sym current_row) listed)
      by b (inr high) = inr (subst (λ (n : ℕ). n ≤ b) (sym retired.next_block) high)
