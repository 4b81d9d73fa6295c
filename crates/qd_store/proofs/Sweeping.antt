-- What a sweep leaves of a store: the files of a block that no version lists go.
use Rattle.std.proofs.Common.{◌≡◌, ◌≢◌, ◌⊎◌, inl, inr, ℕ, ◌^◌, ◌<◌, ◌≤◌, nat_eq, Bool, true, false, ◌||◌, List, All, Option, Some, Contains, refl, sym, subst, arith}
use Rattle.std.proofs.lemmas.List.Elements.{All-contains_itself, All-weaker}
use Rattle.qd_base.specs.declared.op.Entry.{Entry}
use Rattle.qd_catalog.specs.declared.version.Version as catalog
use Rattle.qd_catalog.specs.Versions.{IsListed, lists, version_at}
use Rattle.qd_column_files.specs.Files.{is_file_of}
use Rattle.qd_column_files.proofs.FileLemmas.{own_files}
use Rattle.qd_manifest.specs.declared.shape.TableParts.{TableParts}
use Rattle.qd_manifest.specs.Spelling.{blocks_of}
use Rattle.qd_txnfile.specs.States.{GivesKnown, IsDirty}
use Rattle.qd_sequencer.specs.Laws.{IsElsewhere}
use Rattle.qd_txnfile.specs.declared.half.Other.{Other}
use Rattle.qd_txnfile.specs.declared.half.Other.TheVariants as other
use Rattle.qd_txnfile.specs.Versions.{GivesVersion, Version, is_version_file}
use Rattle.qd_versions.specs.Publishing.{GivesBefore}
use Rattle.std.proofs.lemmas.Bool.Decides.{nat_tests}
use Rattle.qd_versions.specs.Stores as versions
use Rattle.qd_versions.proofs.Blocks.{in_listed}
use Rattle.qd_versions.proofs.Files.{low_of, of_not_version}
use Rattle.qd_volume.specs.Disk.{Disk, Image}
use Rattle.qd_store.specs.Stores.{HasVersions}
use Rattle.qd_store.proofs.Sides.{Spares}

abbrev pub swept : ℕ → ℕ → Bool
swept block file = is_version_file file || is_file_of block file

neither : (a b : Bool) → a ≡ false → b ≡ false → (a || b) ≡ false
neither false b f g = g
neither true b f g = cc

not_both : (block b file : ℕ) → b ≢ block → is_file_of b file ≡ true → (is : Bool) → is_file_of block file ≡ is → is ≡ false
not_both block b file apart mine true other = absurd (apart (own_files.own b block file mine other))
not_both block b file apart mine false other = refl

pub sweep_spares : (block b : ℕ) → b ≢ block → Spares (swept block) b
sweep_spares block b apart file mine = neither (is_version_file file) (is_file_of block file) (of_not_version b file mine) (not_both block b file apart mine (is_file_of block file) refl)

pub zero_spared : (block : ℕ) → swept block 0 ≡ false
zero_spared block = low_of block 0 (omega arith)

-- a block that isn't among those of a version
pub apart_spared : (block : ℕ) (shape : List TableParts) → ((b : ℕ) → Contains (blocks_of shape) b → b ≢ block) → All (Spares (swept block)) (blocks_of shape)
apart_spared block shape apart =
    All-weaker (Contains (blocks_of shape)) (Spares (swept block)) (λ b in_shape. sweep_spares block b (apart b in_shape)) (blocks_of shape) (All-contains_itself (blocks_of shape))

module _ (old : versions.Store) (block : ℕ) (h : List Entry) (next : Version) (before : Disk) (has : HasVersions old h next before)
    (unlisted : IsListed old.versions block → ⊥) (low : block < old.versions.next_block) where
  -- no version lists the block that is swept
  pub live_apart : (row : ℕ) (x : catalog.Version) → version_at old.versions row ≡ Some x → (b : ℕ) → Contains (blocks_of x.shape) b → b ≢ block
  live_apart row x at b in_shape same =
      unlisted (row, subst (λ (o : Option catalog.Version). lists o block ≡ true) (sym at) (in_listed block (blocks_of x.shape) (subst (Contains (blocks_of x.shape)) same in_shape)))

  pub left_apart : (d : IsDirty old.root.other) (b : ℕ) → Contains (blocks_of (has.pending d).left.manifest.shape) b → b ≢ block
  left_apart d b in_shape same = by ((has.pending d).blocks b in_shape)
    where
      by : (lists (version_at old.versions old.versions.current) b ≡ true) ⊎ (old.versions.next_block ≤ b) → ⊥
      by (inl listed) = unlisted (old.versions.current, subst (λ (n : ℕ). lists (version_at old.versions old.versions.current) n ≡ true) same listed)
      by (inr high) = absurd (omega (arith, high, low, same))

  pub live_spared : (row : ℕ) (x : catalog.Version) → version_at old.versions row ≡ Some x → All (Spares (swept block)) (blocks_of x.shape)
  live_spared row x at = apart_spared block x.shape (live_apart row x at)

  pub left_spared : (d : IsDirty old.root.other) → All (Spares (swept block)) (blocks_of (has.pending d).left.manifest.shape)
  left_spared d = apart_spared block (has.pending d).left.manifest.shape (left_apart d)

-- ---- the files of a sweep

swept_high : (block file : ℕ) → block < 2 ^ 52 → 2 ^ 63 ≤ file → (is : Bool) → is_file_of block file ≡ is → is ≡ false
swept_high block file small high true is = let apart = own_files.apart block file small is in absurd (omega (arith, apart.1, high))
swept_high block file small high false is = refl

high_version : (file : ℕ) → 2 ^ 63 ≤ file → (nat_eq file 2 || nat_eq file 3) ≡ false
high_version file high = grind (arith, nat_tests)

pub sweep_elsewhere : (block : ℕ) → block < 2 ^ 52 → IsElsewhere (swept block)
sweep_elsewhere block small = record {
  log = low_of block 1 (omega arith);
  segments = λ file high. neither (is_version_file file) (is_file_of block file) (high_version file high) (swept_high block file small high (is_file_of block file) refl);
}

-- what is known, whether it is being repaired or not
pub given_known : (known : Other) (current next : Version) (before : Disk) (image : Image) → GivesBefore known current next before image ⊎ GivesVersion current image → GivesKnown known current next image
given_known known current next before image (inl earlier) = earlier.0
given_known other.Older current next before image (inr gives) = gives
given_known other.Closed current next before image (inr gives) = gives
given_known (other.Written n) current next before image (inr gives) = gives
given_known (other.Opening n) current next before image (inr gives) = inl gives
