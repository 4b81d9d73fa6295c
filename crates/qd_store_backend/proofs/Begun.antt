-- A backend as it begins.
use Rattle.std.proofs.Common.{◌≡◌, ℕ, ◌≤◌, List, length, Option, Some, None, IfSome, refl, subst, sym, arith}
use Rattle.qd_base.specs.declared.op.Entry.{Entry}
use Rattle.qd_catalog.specs.declared.version.Version as catalog
use Rattle.qd_catalog.specs.Versions.{IsLive}
use Rattle.qd_store.specs.Owned.{Store}
use Rattle.qd_store.specs.Stores.{IsBook, Book}
use Rattle.qd_store_backend.specs.Backs.{AreUsual, BeginsWith, IsBack, IsLeftOf, IsTold, Parts, current, n_in}

-- no more is shown than there is
pub shown_within : (s : Book) → IsBook s → n_in (current s) ≤ length s.sequence.refs
shown_within s book = by (current s) refl where
  by : (o : Option catalog.Version) → current s ≡ o → n_in o ≤ length s.sequence.refs
  by None is = omega arith
  by (Some x) is = book.shown s.versions.versions.current x is

pub told_over : (o : Option (List Entry)) (owned : Store) → BeginsWith o owned → IfSome o (IsTold owned)
told_over None owned h = tt
told_over (Some h) owned is = is

begun_over : (p : Parts) (left : Option Entry) → IsBook p.owned.store → AreUsual p.owned.store.limits
    → ((row : ℕ) → IsLive p.owned.store.versions.versions row → row ≡ p.owned.store.versions.versions.current) → IsLeftOf p.history p.owned left → IsBack (record { parts = p; before = length p.owned.store.sequence.refs; writer = None; left = left })
begun_over p left book usual alone is = record { since = omega arith; within = shown_within p.owned.store book; usual = usual; alone = alone; writer = tt; left = is }

pub begun : (p : Parts) (owned : Store) (before : ℕ) (left : Option Entry) → p.owned ≡ owned → before ≡ length owned.store.sequence.refs → IsBook owned.store → AreUsual owned.store.limits
    → ((row : ℕ) → IsLive owned.store.versions.versions row → row ≡ owned.store.versions.versions.current) → IsLeftOf p.history p.owned left → IsBack (record { parts = p; before = before; writer = None; left = left })
begun p owned before left is count book usual alone may =
    subst (λ (o : Store). IsBook o.store → AreUsual o.store.limits
    → ((row : ℕ) → IsLive o.store.versions.versions row → row ≡ o.store.versions.versions.current) → before ≡ length o.store.sequence.refs → IsBack (record { parts = p; before = before; writer = None; left = left })) is
    (λ b u a n. subst (λ (m : ℕ). IsBack (record { parts = p; before = m; writer = None; left = left })) (sym n) (begun_over p left b u a may)) book usual alone count
