-- From what an image holds of the history, and shows of the versions, to the whole store that it is one of.
use Rattle.std.proofs.Common.{◌≡◌, ◌⊎◌, inl, inr, ℕ, ◌≤◌, List, [], ◌∷◌, ◌++◌, length, Some, refl, sym, ap, subst, arith, length-append}
use Rattle.qd_base.specs.declared.op.Entry.{Entry}
use Rattle.qd_base.specs.declared.part.WalRef.{WalRef}
use Rattle.qd_base.specs.Database.{Database}
use Rattle.qd_base.specs.Replay.{first}
use Rattle.qd_catalog.specs.declared.version.Version as catalog
use Rattle.qd_catalog.specs.Versions.{version_at}
use Rattle.qd_manifest.specs.declared.shape.Manifest.{Manifest}
use Rattle.qd_manifest.specs.Spelling.{IsManifest}
use Rattle.qd_sequencer.specs.Histories.{MayHold}
use Rattle.qd_txnfile.specs.declared.half.Other.{Other}
use Rattle.qd_txnfile.specs.declared.half.Other.TheVariants as other
use Rattle.qd_txnfile.specs.States.{GivesKnown, IsDirty}
use Rattle.qd_txnfile.specs.Versions.{GivesVersion, Version}
use Rattle.qd_versions.specs.Stores as versions
use Rattle.qd_versions.specs.Stores.{current_version, manifest_in, stored, stored_version}
use Rattle.qd_volume.specs.Disk.{Disk, Image}
use Rattle.qd_store.specs.Marks.{IsMade}
use Rattle.qd_store.specs.Prefixes.{HoldsTables, IsLeft}
use Rattle.qd_store.specs.Calls.{ShowsOneOf}
use Rattle.qd_store.proofs.Sides.{LeftTables, Shows, first_longer}

-- tables of a database that is another's name
tables_of : (m : Manifest) (a b : Database) (image : Image) → a ≡ b → HoldsTables m.shape b image → HoldsTables m.shape a image
tables_of m a b image e holds = subst (λ (db : Database). HoldsTables m.shape db image) (sym e) holds

-- one version
module _ (h : List Entry) (More : Entry → Type 0) (P : Version → Type 0) (refs : List WalRef) (n : ℕ) (m : Manifest) (image : Image)
    (made : IsMade image) (gives : GivesVersion (stored n m.next_block m.shape) image) (sound : IsManifest n m) (few : n ≤ length h) (tables : HoldsTables m.shape (first h n) image) (p : P (stored n m.next_block m.shape)) where
  pub one_of : MayHold refs h More image → ShowsOneOf h More P image
  one_of (inl holds) = record {
    found = record { refs = refs; history = h; n = n; manifest = m };
    finds = record { made = made; history = holds; version = gives; manifest = sound; few = few; tables = tables };
    history = inl refl;
    version = p;
  }
  one_of (inr (ref, e, more, holds)) = record {
    found = record { refs = refs ++ ref ∷ []; history = h ++ e ∷ []; n = n; manifest = m };
    finds = record {
      made = made;
      history = holds;
      version = gives;
      manifest = sound;
      few = omega (arith, few, length-append h (e ∷ []));
      tables = tables_of m (first (h ++ e ∷ []) n) (first h n) image (first_longer h (e ∷ []) n few) tables;
    };
    history = inr (e, more, refl);
    version = p;
  }

-- the current version, or the one that was left
module _ (h : List Entry) (More : Entry → Type 0) (refs : List WalRef) (current next : Version) (n : ℕ) (m : Manifest) (before : Disk) (image : Image)
    (made : IsMade image) (is : current ≡ stored n m.next_block m.shape) (sound : IsManifest n m) (few : n ≤ length h) (tables : HoldsTables m.shape (first h n) image) (may : MayHold refs h More image) where
  the_current : (P : Version → Type 0) → P current → GivesVersion current image → ShowsOneOf h More P image
  the_current P p gives = one_of h More P refs n m image made (subst (λ (v : Version). GivesVersion v image) is gives) sound few tables (subst P is p) may

  the_left : (P : Version → Type 0) (left : IsLeft h next before) → P next → HoldsTables left.manifest.shape (first h next.n) image → GivesVersion next image → ShowsOneOf h More P image
  the_left P left p holds gives =
      one_of h More P refs next.n left.manifest image made (subst (λ (v : Version). GivesVersion v image) left.spelled gives) left.sound left.shown.few holds (subst P left.spelled p) may

  pub by_known : (known : Other) (left : IsDirty known → IsLeft h next before) → GivesKnown known current next image → LeftTables h next before known left image → ShowsOneOf h More (λ v. (v ≡ current) ⊎ (IsDirty known × (v ≡ next))) image
  by_known other.Older left gives others = the_current (λ v. (v ≡ current) ⊎ (IsDirty other.Older × (v ≡ next))) (inl refl) gives
  by_known other.Closed left gives others = the_current (λ v. (v ≡ current) ⊎ (IsDirty other.Closed × (v ≡ next))) (inl refl) gives
  by_known (other.Written k) left gives others = the_current (λ v. (v ≡ current) ⊎ (IsDirty (other.Written k) × (v ≡ next))) (inl refl) gives
  by_known (other.Opening k) left (inl gives) others = the_current (λ v. (v ≡ current) ⊎ (IsDirty (other.Opening k) × (v ≡ next))) (inl refl) gives
  by_known (other.Opening k) left (inr gives) others = the_left (λ v. (v ≡ current) ⊎ (IsDirty (other.Opening k) × (v ≡ next))) (left tt) (inr (tt, refl)) others gives

-- the current version of a store, as its row has it
pub current_is : (v : versions.Store) (x : catalog.Version) → version_at v.versions v.versions.current ≡ Some x → current_version v.versions ≡ stored x.n v.versions.next_block x.shape
current_is v x at = ap (stored_version v.versions.next_block) at

pub shows_one_of : (v : versions.Store) (h : List Entry) (More : Entry → Type 0) (refs : List WalRef) (next : Version) (x : catalog.Version) (before : Disk) (left : IsDirty v.root.other → IsLeft h next before) (image : Image)
    → version_at v.versions v.versions.current ≡ Some x → IsManifest x.n (manifest_in v.versions.next_block x.shape) → x.n ≤ length h → Shows v h next x before left image → MayHold refs h More image
    → ShowsOneOf h More (λ w. (w ≡ current_version v.versions) ⊎ (IsDirty v.root.other × (w ≡ next))) image
shows_one_of v h More refs next x before left image at sound few shows may =
    by_known h More refs (current_version v.versions) next x.n (manifest_in v.versions.next_block x.shape) before image shows.made (current_is v x at) sound few shows.current may v.root.other left shows.given shows.others
