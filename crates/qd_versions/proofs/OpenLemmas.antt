-- What an opening finds, and why a version is refused.
use Rattle.std.proofs.Common.{◌≡◌, ◌⊎◌, inl, inr, ℕ, ◌+◌, ◌<◌, ◌≤◌, List, Option, Ok, Err, sym, ap, ◌∙◌, subst, arith}
use Rattle.qd_volume.specs.Disk.{Disk, Image, images_now, file_of, reads_of}
use Rattle.qd_volume.proofs.Sound.{image_of_reads, sound_file}
use Rattle.qd_durable.specs.Moments.{EachNow, Told}
use Rattle.qd_durable.specs.declared.fault.LogFault.{LogFault}
use Rattle.qd_durable.specs.declared.fault.LogFault.TheVariants as fault
use Rattle.qd_durable.proofs.Writes.{told_map}
use Rattle.qd_txnfile.specs.declared.opening.Found.{Found}
use Rattle.qd_txnfile.specs.Opening as root
use Rattle.qd_txnfile.specs.States.{Knows}
use Rattle.qd_txnfile.specs.Versions as txn
use Rattle.qd_txnfile.specs.Versions.{GivesVersion, Version}
use Rattle.qd_txnfile.proofs.LawLemmas.{damaged_none, one_version}
use Rattle.qd_manifest.specs.declared.shape.Manifest.{Manifest}
use Rattle.qd_manifest.specs.Reading.{IsDamagedAt}
use Rattle.qd_manifest.specs.Spelling.{SpellsManifest, manifest_bytes}
use Rattle.qd_manifest.proofs.ManifestLaws.{damaged_spells_none}
use Rattle.qd_catalog.specs.Versions as catalog
use Rattle.qd_catalog.specs.Versions.{Versions}
use Rattle.qd_versions.specs.declared.keeping.KeptTail.{KeptTail}
use Rattle.qd_versions.specs.Opening.{IsDamaged, IsIn, IsOpened, IsRefused, NoManifest, NoVersion, Opens, TooNew}
use Rattle.qd_versions.specs.Stores.{Store, current_version}
use Rattle.qd_versions.proofs.Stores.{version_opened}

-- what files read is one of the images
reads_now : (disk : Disk) → images_now disk (reads_of disk)
reads_now disk file = image_of_reads (file_of disk file) (sound_file disk file)

-- the version files give no version
not_found : (cause answer : LogFault) (records : ℕ) (before after : Disk) → answer ≡ cause → root.Opens (Err cause) before after → Opens (Err answer) records before after
not_found cause answer records before after same opens = record {
  found = subst (λ (f : LogFault). IsOpened (Err f) records after) (sym same) (by cause opens.found);
  reads = opens.reads;
  images = opens.images;
}
  where
    by : (cause : LogFault) → root.IsOpened (Err cause) after → IsOpened (Err cause) records after
    by (fault.Damaged file at) damaged = NoVersion file at damaged
    by fault.Vol found = tt
    by fault.Memory found = tt

module _ (found : Found) (records : ℕ) (before after : Disk) (opens : root.Opens (Ok found) before after) where
  abbrev v : Version
  v = root.version_of found

  number : found.file.n ≡ found.n
  number = (opens.found.2 v).number

  is_in : IsIn found.file.current v (reads_of after)
  is_in = record { holds = (opens.found.2 v).holds (reads_of after) (reads_now after); given = opens.found.0 }

  version_refused : (file n : ℕ) (manifest : List ℕ) (e : LogFault) → file ≡ txn.file_of found.file.current → n ≡ found.file.n → manifest ≡ found.manifest → IsRefused file n manifest records e → IsOpened (Err e) records after
  version_refused file n manifest fault.Vol here is same refused = tt
  version_refused file n manifest fault.Memory here is same refused = tt
  version_refused file n manifest (fault.Damaged damaged at) here is same refused =
      subst (λ f. IsDamaged records (reads_of after) f at) (sym (refused.0 ∙ here)) (by refused.1)
    where
      by : ((records < n) × (at ≡ 1)) ⊎ ((n ≤ records) × (k : ℕ) × (at ≡ 17 + k) × IsDamagedAt n manifest k) → IsDamaged records (reads_of after) (txn.file_of found.file.current) at
      by (inl new) =
          subst (λ a. IsDamaged records (reads_of after) (txn.file_of found.file.current) a) (sym new.1)
          (TooNew found.file.current v is_in (omega (arith, new.0, is, number)))
      by (inr none) =
          let there = subst (λ (l : List ℕ). IsDamagedAt found.n l none.1) same (subst (λ k. IsDamagedAt k manifest none.1) (is ∙ number) none.3) in
          subst (λ a. IsDamaged records (reads_of after) (txn.file_of found.file.current) a) (sym none.2)
          (NoManifest found.file.current v none.1 is_in (omega (arith, none.0, is, number)) there)

  refused_opens : (file n : ℕ) (manifest : List ℕ) (e answer : LogFault) → answer ≡ e → file ≡ txn.file_of found.file.current → n ≡ found.file.n → manifest ≡ found.manifest → IsRefused file n manifest records e → Opens (Err answer) records before after
  refused_opens file n manifest e answer one here is same refused = record {
    found = subst (λ (f : LogFault). IsOpened (Err f) records after) (sym one) (version_refused file n manifest e here is same refused);
    reads = opens.reads;
    images = opens.images;
  }

  module _ (c : Versions) (kept : List KeptTail) (m : Manifest) (n : ℕ) (manifest : List ℕ) (is : n ≡ found.file.n) (same : manifest ≡ found.manifest) (spells : SpellsManifest n manifest m) (opened : catalog.IsOpened c n m.next_block m.shape) where
    abbrev s : Store
    s = record { root = found.file; versions = c; kept = kept }

    current_is : current_version c ≡ v
    current_is =
        version_opened c n m.next_block m.shape opened
        ∙ ap (λ k. record { n = k; manifest = manifest_bytes m }) (is ∙ number)
        ∙ ap (λ (l : List ℕ). record { n = found.n; manifest = l }) (sym spells.whole ∙ same)

    opens_whole : Opens (Ok s) records before after
    opens_whole = record {
      found = (
        subst (λ (x : Version). GivesVersion x (reads_of after)) (sym current_is) opens.found.0,
        subst (λ (x : Version). EachNow after (GivesVersion x)) (sym current_is) opens.found.1,
        λ next. record { root = subst (λ (x : Version). Knows found.file x next after) (sym current_is) (opens.found.2 next) },
      );
      reads = opens.reads;
      images = opens.images;
    }

module _ (records : ℕ) (old new : Option Disk) where
  pub not_found_told : (cause answer : LogFault) → answer ≡ cause → Told old new (root.Opens (Err cause)) → Told old new (Opens (Err answer) records)
  not_found_told cause answer same told = told_map (root.Opens (Err cause)) (Opens (Err answer) records) old new (λ a b opens. not_found cause answer records a b same opens) told

  pub refused_told : (found : Found) (file n : ℕ) (manifest : List ℕ) (e answer : LogFault) → answer ≡ e → file ≡ txn.file_of found.file.current → n ≡ found.file.n → manifest ≡ found.manifest → IsRefused file n manifest records e → Told old new (root.Opens (Ok found)) → Told old new (Opens (Err answer) records)
  refused_told found file n manifest e answer one here is same refused told =
      told_map (root.Opens (Ok found)) (Opens (Err answer) records) old new (λ a b opens. refused_opens found records a b opens file n manifest e answer one here is same refused) told

  pub opened_told : (found : Found) (c : Versions) (kept : List KeptTail) (m : Manifest) (n : ℕ) (manifest : List ℕ) → n ≡ found.file.n → manifest ≡ found.manifest → SpellsManifest n manifest m → catalog.IsOpened c n m.next_block m.shape → Told old new (root.Opens (Ok found)) → Told old new (Opens (Ok (record { root = found.file; versions = c; kept = kept })) records)
  opened_told found c kept m n manifest is same spells opened told =
      told_map (root.Opens (Ok found)) (Opens (Ok (record { root = found.file; versions = c; kept = kept })) records) old new (λ a b opens. opens_whole found records a b opens c kept m n manifest is same spells opened) told

-- damage gives no store
pub no_store : (records : ℕ) (image : Image) (w : Version) (m : Manifest) (file at : ℕ) → IsDamaged records image file at → GivesVersion w image → w.n ≤ records → SpellsManifest w.n w.manifest m → ⊥
no_store records image w m file at (NoVersion f a damaged) gives few spells = damaged_none image w f a damaged gives
no_store records image w m file at (TooNew half x is more) gives few spells =
    omega (arith, ap (λ (y : Version). y.n) (one_version image x w is.given gives), more, few)
no_store records image w m file at (NoManifest half x k is le damaged) gives few spells =
    damaged_spells_none w.n w.manifest k m (subst (λ (y : Version). IsDamagedAt y.n y.manifest k) (one_version image x w is.given gives) damaged) spells
