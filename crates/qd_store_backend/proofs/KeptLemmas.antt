-- What a cache of blocks keeps behind a look-up, behind a put, and behind calls of the source that it is of.
use Rattle.std.proofs.Common.{◌≡◌, ◌∙◌, ◌⊎◌, inl, inr, ℕ, ◌&&◌, nat_eq, Bool, true, List, [], ◌∷◌, ◌++◌, map, Contains, Option, Some, None, IfSome, length, ◌<◌, ◌≤◌, Result, Ok, Err, OnOk, OnErr, refl, sym, ap, ap₂, subst, arith}
use Rattle.std.specs.Arc.{arc_value}
use Rattle.std.specs.declared.sync.Arc.{Arc}
use Rattle.std.specs.Cmp.{first_so, second_so, unsigned_Decides}
use Rattle.std.specs.Map.{lookup}
use Rattle.std.proofs.lemmas.List.{take-append-le}
use Rattle.lru.specs.LruCache.{LruCache, lru_cache, promoted, put_entries}
use Rattle.lru.proofs.CallerLemmas.{Contains-lookup, Contains-promoted, Contains-put_entries, IsPut}
use Rattle.qd_base.specs.declared.op.Entry.{Entry}
use Rattle.qd_base.specs.declared.part.Part.{Part}
use Rattle.qd_base.specs.declared.schema.Schema.{Schema}
use Rattle.qd_base.specs.Database.{Database}
use Rattle.qd_base.specs.Replay.{after}
use Rattle.qd_block.specs.Blocks.{Block}
use Rattle.qd_scan.specs.Sources.{part_at, schema_at, HasRowsOf, IsBlockOf, SourceView}
use Rattle.qd_catalog.specs.declared.version.Version as catalog
use Rattle.qd_catalog.specs.Versions.{version_at}
use Rattle.qd_durable.specs.declared.fault.LogFault.{LogFault}
use Rattle.qd_durable.specs.declared.fault.LogFault.TheVariants as damage
use Rattle.qd_store.specs.Owned.{Store}
use Rattle.qd_store.specs.Reading.{IsShownPart}
use Rattle.qd_store.specs.Stores.{IsStore, Book}
use Rattle.qd_txnfile.specs.Versions.{Version}
use Rattle.qd_volume.specs.Disk.{Disk, reads_of}
use Rattle.qd_versions.specs.Stores as versions
use Rattle.qd_store_backend.specs.Backs.{current, database_in, n_in, shape_in, source_of, IsNextTold, IsLastDamage, IsPartDamage, IsParts, IsTold, Parts}
use Rattle.qd_store_backend.specs.Kept.{AreOf, IsKeeping, IsKept, KeepsNoOther, KeepsOne}
use Rattle.qd_store_backend.specs.Rounds.{StaysTold}
use Rattle.qd_manifest.specs.Spelling.{schemas_in}

-- whether two places are the same
abbrev same_place : ℕ × ℕ → ℕ × ℕ → Bool
same_place x y = nat_eq x.0 y.0 && nat_eq x.1 y.1

place_is : (x y : ℕ × ℕ) → same_place x y ≡ true → y ≡ x
place_is x y same =
    let tables : x.0 ≡ y.0 = (unsigned_Decides x.0 y.0).0 (first_so (nat_eq x.0 y.0) (nat_eq x.1 y.1) same) in
    let parts : x.1 ≡ y.1 = (unsigned_Decides x.1 y.1).0 (second_so (nat_eq x.0 y.0) (nat_eq x.1 y.1) same) in
    ap₂ (λ (t i : ℕ). (t, i)) (sym tables) (sym parts)

module _ {Z : Type 0} (old new : LruCache (ℕ × ℕ) (Arc Block Z)) (place : ℕ × ℕ) where
  pub promoted_keeps : new ≡ lru_cache (promoted (same_place place) old.entries) old.cap → KeepsNoOther old.entries new.entries
  promoted_keeps is t j b (e, there, at, value) =
      (e, Contains-promoted (same_place place) old.entries e (subst (λ (c : LruCache (ℕ × ℕ) (Arc Block Z)). Contains c.entries e) is there), at, value)

  pub found_kept : (a : Arc Block Z) → lookup (same_place place) new.entries ≡ Some a → IsKept new.entries place.0 place.1 (arc_value a)
  found_kept a is =
      let found = Contains-lookup (same_place place) new.entries a is in
      ((found.0, a), found.1, place_is place found.0 found.2, refl)

  put_one : (a : Arc Block Z) → new ≡ lru_cache (put_entries same_place old place a) old.cap → KeepsOne old.entries new.entries place.0 place.1 (arc_value a)
  put_one a is t j b (e, there, at, value) =
      elim (Contains-put_entries same_place old place a e (subst (λ (c : LruCache (ℕ × ℕ) (Arc Block Z)). Contains c.entries e) is there)) [
        | inl before ↦ inl (e, before, at, value)
        | inr put ↦ inr (by e at value put)
      ]
    where
      key : (e : (ℕ × ℕ) × Arc Block Z) → (e.0 ≡ place) ⊎ ((w : Arc Block Z) × Contains old.entries (e.0, w) × (same_place place e.0 ≡ true)) → e.0 ≡ place
      key e (inl is) = is
      key e (inr (w, there, same)) = place_is place e.0 same

      by : (e : (ℕ × ℕ) × Arc Block Z) → e.0 ≡ (t, j) → arc_value e.1 ≡ b → IsPut same_place old place a e → (t ≡ place.0) × (j ≡ place.1) × (b ≡ arc_value a)
      by e at value put =
          let k = sym at ∙ key e put.1 in
          (ap (λ p. p.0) k, ap (λ p. p.1) k, sym value ∙ ap arc_value put.0)

  pub put_keeps : {T E : Type 0} (a : Arc Block Z) (r : Result T E) → OnOk r (new ≡ lru_cache (put_entries same_place old place a) old.cap) → OnErr r (new ≡ old) → KeepsOne old.entries new.entries place.0 place.1 (arc_value a)
  put_keeps a (Ok x) done failed = put_one a done
  put_keeps a (Err x) done failed = λ t j b is. inl (subst (λ (c : LruCache (ℕ × ℕ) (Arc Block Z)). IsKept c.entries t j b) failed is)

-- ---- the blocks of a source

-- a source that shows these
abbrev shown : List Schema → List (List Part) → Option Database → SourceView
shown schemas parts database = record { schemas = schemas; parts = parts; database = database; faults = 0; damages = 0; last_damage = None }

module _ {Z : Type 0} where
  pub none_kept : (s : SourceView) (kept : List ((ℕ × ℕ) × Arc Block Z)) → kept ≡ [] → AreOf s kept
  none_kept s kept none t j b (e, (k, lt, at), place, is) = absurd (let few : k < 0 = subst (λ (l : List ((ℕ × ℕ) × Arc Block Z)). k < length l) none lt in omega (arith, few))

  pub no_other_of : (s : SourceView) (old new : List ((ℕ × ℕ) × Arc Block Z)) → KeepsNoOther old new → AreOf s old → AreOf s new
  no_other_of s old new keeps are t j b is = are t j b (keeps t j b is)

  pub one_of : (s : SourceView) (old new : List ((ℕ × ℕ) × Arc Block Z)) (table i : ℕ) (b : Block) → KeepsOne old new table i b → IsBlockOf (schema_at s table) (part_at s table i) b → HasRowsOf s table i b → AreOf s old → AreOf s new
  one_of s old new table i b keeps fits rows are t j c is =
      elim (keeps t j c is) [
        | inl before ↦ are t j c before
        | inr put ↦
            subst (λ (x : ℕ). IsBlockOf (schema_at s x) (part_at s x j) c × HasRowsOf s x j c) (sym put.0)
            (subst (λ (y : ℕ). IsBlockOf (schema_at s table) (part_at s table y) c × HasRowsOf s table y c) (sym put.1)
            (subst (λ (d : Block). IsBlockOf (schema_at s table) (part_at s table i) d × HasRowsOf s table i d) (sym put.2) (fits, rows)))
      ]

  -- they are those of a source that shows the same
  pub same_of : (s t : SourceView) (kept : List ((ℕ × ℕ) × Arc Block Z)) → t.schemas ≡ s.schemas → t.parts ≡ s.parts → t.database ≡ s.database → AreOf s kept → AreOf t kept
  same_of s t kept schemas parts database are =
      subst (λ (x : List Schema). AreOf (shown x t.parts t.database) kept) (sym schemas)
      (subst (λ (x : List (List Part)). AreOf (shown s.schemas x t.database) kept) (sym parts)
      (subst (λ (x : Option Database). AreOf (shown s.schemas s.parts x) kept) (sym database) are))

-- ---- behind a commit

-- no more is shown than there is
shown_few : (owned : Store) (h : List Entry) → IsTold owned h → n_in (current owned.store) ≤ length h
shown_few owned h (disk, next, same, is) = by (current owned.store) refl where
  by : (o : Option catalog.Version) → current owned.store ≡ o → n_in o ≤ length h
  by None at = omega arith
  by (Some x) at = (is.versions.live owned.store.versions.versions.current x at).few

module _ (old new : Store) (same : new.store.versions ≡ old.store.versions) where
  number_stays : n_in (current new.store) ≡ n_in (current old.store)
  number_stays = ap (λ (v : versions.Store). n_in (version_at v.versions v.versions.current)) same

  -- the transactions that are shown are the first ones, also with one more behind all
  database_stays : (history then : Option (List Entry)) → IfSome history (IsTold old) → IsNextTold history new then → database_in then (n_in (current new.store)) ≡ database_in history (n_in (current old.store))
  database_stays None then told next = ap (λ (o : Option (List Entry)). database_in o (n_in (current new.store))) next
  database_stays (Some h) then told (e, is, next) =
      ap (λ (o : Option (List Entry)). database_in o (n_in (current new.store))) is
      ∙ ap (λ (n : ℕ). database_in (Some (h ++ e ∷ [])) n) number_stays
      ∙ ap (λ (l : List Entry). Some (after l)) (take-append-le (n_in (current old.store)) h (e ∷ []) (shown_few old h told))

-- a source with another volume and history, and the same versions
abbrev with_store : Parts → Store → Option (List Entry) → Parts
with_store p owned history = record { owned = owned; history = history; schemas = p.schemas; damages = p.damages; last_damage = p.last_damage }

module _ {Z : Type 0} (p : Parts) (owned : Store) (kept : List ((ℕ × ℕ) × Arc Block Z)) (same : owned.store.versions ≡ p.owned.store.versions) where
  parts_stay : map (λ t. t.parts) (shape_in (current owned.store)) ≡ map (λ t. t.parts) (shape_in (current p.owned.store))
  parts_stay = ap (λ (v : versions.Store). map (λ t. t.parts) (shape_in (version_at v.versions v.versions.current))) same

  pub kept_behind : (then : Option (List Entry)) → IfSome p.history (IsTold p.owned) → IsNextTold p.history owned then → AreOf (source_of p) kept
      → AreOf (source_of (record { owned = owned; history = then; schemas = p.schemas; damages = p.damages; last_damage = p.last_damage })) kept
  kept_behind then told next are =
      same_of (source_of p) (source_of (with_store p owned then)) kept refl parts_stay (database_stays p.owned owned same p.history then told next) are

  pub kept_still : AreOf (source_of p) kept → AreOf (source_of (record { owned = owned; history = p.history; schemas = p.schemas; damages = p.damages; last_damage = p.last_damage })) kept
  kept_still are = same_of (source_of p) (source_of (with_store p owned p.history)) kept refl parts_stay (ap (database_in p.history) (number_stays p.owned owned same)) are

-- ---- behind a sweep

-- a source whose store shows the same version stays what it is, with the blocks that are kept
pub keeping_swept : {Z : Type 0} (p : Parts) (owned : Store) (last : Option (ℕ × ℕ)) (kept : List ((ℕ × ℕ) × Arc Block Z)) → IsKeeping p kept → current owned.store ≡ current p.owned.store → StaysTold p.owned owned → IsLastDamage owned last
    → IsKeeping (record { owned = owned; history = p.history; schemas = p.schemas; damages = p.damages; last_damage = last }) kept
keeping_swept p owned last kept is same stays damage = record {
  parts = record {
    schemas = is.parts.schemas ∙ sym (ap (λ (o : Option catalog.Version). schemas_in (shape_in o)) same);
    told = by p.history is.parts.told;
    whole = is.parts.whole;
    damage = damage;
  };
  blocks = same_of (source_of p) (source_of (with_store p owned p.history)) kept refl (ap (λ (o : Option catalog.Version). map (λ t. t.parts) (shape_in o)) same) (ap (λ (o : Option catalog.Version). database_in p.history (n_in o)) same) is.blocks;
}
  where
    by : (o : Option (List Entry)) → IfSome o (IsTold p.owned) → IfSome o (IsTold owned)
    by None told = tt
    by (Some h) told = stays h told

-- ---- behind a read

-- what a read of a told store finds is never damage
no_damage : (owned : Store) (row table i file at : ℕ) → IfSome owned.storage.disk (λ disk. (h : List Entry) (next : Version) → IsStore owned.store h next disk → IsShownPart (Err (damage.Damaged file at)) owned.store h row table i)
    → (h : List Entry) → IsTold owned h → ⊥
no_damage owned row table i file at shown h (disk, next, same, is) =
    subst (λ (o : Option Disk). IfSome o (λ disk. (h : List Entry) (next : Version) → IsStore owned.store h next disk → ⊥)) same shown h next is

pub none_damaged : (p : Parts) (row table i file at damages : ℕ) (fault : LogFault) → IsParts p → fault ≡ damage.Damaged file at
    → IfSome p.owned.storage.disk (λ disk. (h : List Entry) (next : Version) → IsStore p.owned.store h next disk → IsShownPart (Err fault) p.owned.store h row table i)
    → (h : List Entry) → p.history ≡ Some h → damages ≡ 0
none_damaged p row table i file at damages fault are damaged shown h is =
    let found = subst (λ (f : LogFault). IfSome p.owned.storage.disk (λ disk. (h : List Entry) (next : Version) → IsStore p.owned.store h next disk → IsShownPart (Err f) p.owned.store h row table i)) damaged shown in
    absurd (no_damage p.owned row table i file at found h (subst (λ (o : Option (List Entry)). IfSome o (IsTold p.owned)) is are.told))

-- a source whose store is as it was stays what it is
pub keeping_read : {Z : Type 0} (p : Parts) (owned : Store) (damages : ℕ) (last : Option (ℕ × ℕ)) (kept : List ((ℕ × ℕ) × Arc Block Z)) → IsKeeping p kept → owned.store ≡ p.owned.store → owned.storage.disk ≡ p.owned.storage.disk
    → ((h : List Entry) → p.history ≡ Some h → damages ≡ 0) → IsLastDamage owned last → IsKeeping (record { owned = owned; history = p.history; schemas = p.schemas; damages = damages; last_damage = last }) kept
keeping_read p owned damages last kept is same stays whole damage =
    let swept = keeping_swept p owned last kept is (ap (λ (s : Book). current s) same) (λ h told. read_told p.owned owned h same stays told) damage in
    record {
      parts = record { schemas = swept.parts.schemas; told = swept.parts.told; whole = whole; damage = damage };
      blocks = swept.blocks;
    }
  where
    read_told : (old new : Store) (h : List Entry) → new.store ≡ old.store → new.storage.disk ≡ old.storage.disk → IsTold old h → IsTold new h
    read_told old new h same stays (disk, next, on, is) = (disk, next, stays ∙ on, subst (λ (s : Book). IsStore s h next disk) (sym same) is)

-- the last damage is there still where the store and its volume are as they were
pub damage_stays : (old new : Store) (last : Option (ℕ × ℕ)) → new.store ≡ old.store → new.storage.disk ≡ old.storage.disk → IsLastDamage old last → IsLastDamage new last
damage_stays old new last same stays is =
    subst (λ (s : Book). IsLastDamage (record { store = s; storage = new.storage }) last) (sym same)
    (subst (λ (o : Option Disk). IfSome last (λ place. IfSome o (λ disk. IsPartDamage old.store (reads_of disk) place.0 place.1))) (sym stays) is)
