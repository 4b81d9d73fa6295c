-- The versions of a store that was opened.
use Rattle.std.proofs.Common.{◌≡◌, ℕ, zero, suc, ◌+◌, true, List, [], ◌∷◌, Option, Some, None, is_some, refl, sym, ◌∙◌, ap, ap₂, subst, arith, get_or, replicate}
use Rattle.qd_catalog.specs.declared.version.Version as catalog
use Rattle.qd_catalog.specs.Versions as rows
use Rattle.qd_catalog.specs.Versions.{IsLive, version_at}
use Rattle.qd_durable.specs.Moments.{EachNow}
use Rattle.qd_manifest.specs.declared.shape.Manifest.{Manifest}
use Rattle.qd_manifest.specs.declared.shape.TableParts.{TableParts}
use Rattle.qd_manifest.specs.Laws.{OneManifestIsSpelled}
use Rattle.qd_manifest.specs.Spelling.{IsManifest}
use Rattle.qd_txnfile.specs.declared.half.Other.{Other}
use Rattle.qd_txnfile.specs.declared.half.Other.TheVariants as other
use Rattle.qd_txnfile.specs.States.{HasNext, IsDirty, IsNext}
use Rattle.qd_txnfile.specs.Versions.{Version}
use Rattle.qd_versions.specs.Stores as versions
use Rattle.qd_versions.specs.Stores.{IsRooted, current_version, stored, stored_version}
use Rattle.qd_versions.proofs.KeptTails.{none_kept}
use Rattle.qd_volume.specs.Disk.{Disk}
use Rattle.qd_store.specs.Marks.{IsMade}
use Rattle.qd_store.specs.Prefixes.{IsShown}
use Rattle.qd_store.specs.Found.{Found, version_of}
use Rattle.qd_store.specs.Opening.{HasFirstRow}
use Rattle.qd_store.specs.Stores.{HasVersions}
use Rattle.qd_store.proofs.Creating.{row_is}
use Rattle.qd_store.proofs.Opened.{same_found}

-- what is known beside any next version isn't about one
not_dirty : (known : Other) (current : Version) → ((next : Version) → HasNext known current next) → IsDirty known → ⊥
not_dirty (other.Opening n) current any dirty = by (any (record { n = n + 1; manifest = [] }))
  where
    by : IsNext n current (record { n = n + 1; manifest = [] }) → ⊥
    by next = absurd (omega (arith, next.is))
not_dirty other.Older current any dirty = dirty
not_dirty other.Closed current any dirty = dirty
not_dirty (other.Written n) current any dirty = dirty

pub never_dirty : (v : versions.Store) (disk : Disk) → ((next : Version) → IsRooted v next disk) → IsDirty v.root.other → ⊥
never_dirty v disk rooted dirty = not_dirty v.root.other (current_version v.versions) (λ next. (rooted next).root.follows) dirty

-- no other row than the first is live
none_behind : (o : Option catalog.Version) → o ≡ None → (count row : ℕ) → is_some (get_or (replicate count o) row o) ≡ true → ⊥
none_behind o is zero row live = cc
none_behind o is (suc count) zero live = cc
none_behind o is (suc count) (suc row) live = none_behind o is count row live

only_first : (y : catalog.Version) (row count : ℕ) → is_some (get_or (Some y ∷ replicate count None) row None) ≡ true → row ≡ 0
only_first y zero count live = refl
only_first y (suc row) count live = absurd (none_behind None refl count row live)

-- the catalogue of one version
module _ (c : rows.Versions) (n next : ℕ) (shape : List TableParts) (opened : rows.IsOpened c n next shape) where
  pub row_of_it : version_at c c.current ≡ Some (record { n = n; shape = shape })
  row_of_it = ap₂ (λ (l : List (Option catalog.Version)) (k : ℕ). get_or l k None) opened.versions opened.current

  pub version_of_it : current_version c ≡ stored n next shape
  version_of_it = ap₂ (λ (k : ℕ) (o : Option catalog.Version). stored_version k o) opened.next_block row_of_it

  pub one_of_it : (row : ℕ) (x : catalog.Version) → version_at c row ≡ Some x → x ≡ record { n = n; shape = shape }
  one_of_it row x at = row_is x (record { n = n; shape = shape }) row 63 (subst (λ (l : List (Option catalog.Version)). get_or l row None ≡ Some x) opened.versions at)

  pub alone_of_it : (row : ℕ) → IsLive c row → row ≡ c.current
  alone_of_it row live =
      only_first (record { n = n; shape = shape }) row 63 (subst (λ (l : List (Option catalog.Version)). is_some (get_or l row None) ≡ true) opened.versions live)
      ∙ sym opened.current

  pub first_of_it : HasFirstRow c
  first_of_it = record { n = n; shape = shape; versions = opened.versions; current = opened.current }

module _ (manifests : OneManifestIsSpelled) (v : versions.Store) (m : Manifest) (sound : IsManifest v.root.n m) (opened : rows.IsOpened v.versions v.root.n m.next_block m.shape)
    (f : Found) (found : IsManifest f.n f.manifest) (is : current_version v.versions ≡ version_of f) where
  same : (v.root.n ≡ f.n) × (m ≡ f.manifest)
  same = same_found manifests (record { refs = []; history = []; n = v.root.n; manifest = m }) f sound found (sym (version_of_it v.versions v.root.n m.next_block m.shape opened) ∙ is)

  pub number_is : v.root.n ≡ f.n
  number_is = same.0

  pub shape_is : m.shape ≡ f.manifest.shape
  shape_is = ap (λ (x : Manifest). x.shape) same.1

  pub opened_versions : v.kept ≡ [] → (disk : Disk) (next : Version) → EachNow disk IsMade → ((next : Version) → IsRooted v next disk) → IsShown f.history f.n f.manifest.shape disk → HasVersions v f.history next disk
  opened_versions none disk next made rooted shown = record {
    made = made;
    rooted = rooted next;
    pending = λ dirty. absurd (never_dirty v disk rooted dirty);
    live = λ row x at.
        let here : IsShown f.history v.root.n m.shape disk = subst (λ (k : ℕ). IsShown f.history k m.shape disk) (sym number_is) (subst (λ (l : List TableParts). IsShown f.history f.n l disk) (sym shape_is) shown) in
        subst (λ (y : catalog.Version). IsShown f.history y.n y.shape disk) (sym (one_of_it v.versions v.root.n m.next_block m.shape opened row x at)) here;
    kept = none_kept v disk none;
  }
