-- The versions of a store, and what is known of them on a told volume. The rule is this project's own: the
-- current version stands in the version files, and the columns of its parts in the files of their blocks.
use Rattle.std.specs.Prelude.{◌≡◌, ◌≢◌, ℕ, ◌^◌, ◌<◌, ◌≤◌, List, [], length, take, All, Option, Some, None, Contains}
use Rattle.qd_base.specs.Lawful.{AreSchemas}
use Rattle.qd_base.specs.declared.part.Part.{Part}
use Rattle.qd_block.specs.Blocks.{kinds_in}
use Rattle.qd_volume.specs.Disk.{Disk}
use Rattle.qd_txnfile.specs.States.{Knows, Root}
use Rattle.qd_txnfile.specs.Versions.{Version}
use Rattle.qd_manifest.specs.declared.shape.Manifest.{Manifest}
use Rattle.qd_manifest.specs.declared.shape.TableParts.{TableParts}
use Rattle.qd_manifest.specs.Spelling.{AreParts, IsManifest, manifest_bytes, schemas_in}
use Rattle.qd_catalog.specs.declared.version.Version as shown
use Rattle.qd_catalog.specs.Laws.{IsCovered}
use Rattle.qd_column_files.specs.Growing.{all_texts}
use Rattle.qd_versions.specs.declared.keeping.KeptTail.{KeptTail}
use Rattle.qd_versions.specs.declared.keeping.TheConstants.{MAX_KEPT, MAX_KEPT_TEXTS}
use Rattle.qd_catalog.specs.Versions.{IsListed, IsLive, Versions, version_at, written_of}

-- what contracts see of a store of versions: its root, its live versions with their blocks, and what rows behind those of some
-- blocks go on with, as it is kept
pub record Store : Type 0 where
  pub root : Root
  pub versions : Versions
  pub kept : List KeptTail

-- what is kept, is kept of few blocks, which have named few texts
pub record AreFew (kept : List KeptTail) : Type 0 where
  pub few : length kept ≤ MAX_KEPT
  pub small : All (λ k. all_texts k.tail.columns ≤ MAX_KEPT_TEXTS) kept

-- what a version's manifest says
abbrev pub manifest_in : ℕ → List TableParts → Manifest
manifest_in next shape = record { next_block = next; shape = shape }

-- a version as the version files have it
abbrev pub stored : ℕ → ℕ → List TableParts → Version
stored n next shape = record { n = n; manifest = manifest_bytes (manifest_in next shape) }

abbrev pub stored_version : ℕ → Option shown.Version → Version
stored_version next None = stored 0 next []
stored_version next (Some x) = stored x.n next x.shape

-- the current version
abbrev pub current_version : Versions → Version
current_version v = stored_version v.next_block (version_at v v.current)

-- What is known of a told volume: the current version stands in the version files, and where one was written
-- beside it, the next one.
pub record IsRooted (s : Store) (next : Version) (disk : Disk) : Type 0 where
  pub root : Knows s.root (current_version s.versions) next disk

-- the tables of a version: their schemas, and their parts
pub record AreTables (shape : List TableParts) : Type 0 where
  pub schemas : AreSchemas (schemas_in shape)
  pub parts : All (λ t. AreParts t.schema t.parts) shape

-- the current version is the root's, and has a manifest
pub record IsCurrent (s : Store) (x : shown.Version) : Type 0 where
  pub number : x.n ≡ s.root.n
  pub sound : IsManifest x.n (manifest_in s.versions.next_block x.shape)

-- parts of two shapes that name one block read its files as columns of the same kinds
abbrev pub HaveOneKinds : List TableParts → List TableParts → Type 0
HaveOneKinds one other = (t u : TableParts) (p q : Part) → Contains one t → Contains t.parts p → Contains other u → Contains u.parts q → p.block ≡ q.block → take p.cols (kinds_in t.schema.cols) ≡ take q.cols (kinds_in u.schema.cols)

-- so do those of any two live versions
abbrev pub AreAlike : Versions → Type 0
AreAlike v = (row other : ℕ) (x y : shown.Version) → row ≢ other → version_at v row ≡ Some x → version_at v other ≡ Some y → HaveOneKinds x.shape y.shape

-- What every store of versions keeps: a version shows at most 2^30 transactions, and so the numbers of its
-- blocks are below 2^52.
pub record IsStore (s : Store) : Type 0 where
  pub rows : length s.versions.versions ≡ 64
  pub few : s.root.n ≤ 2 ^ 30
  pub live : IsLive s.versions s.versions.current
  pub current : (x : shown.Version) → version_at s.versions s.versions.current ≡ Some x → IsCurrent s x
  pub tables : (row : ℕ) (x : shown.Version) → version_at s.versions row ≡ Some x → AreTables x.shape
  -- blocks that are listed or queued are below the next one; what is listed has rows, and isn't queued
  pub below : (b : ℕ) → IsListed s.versions b → b < s.versions.next_block
  pub queued : (b : ℕ) → Contains s.versions.retired b → b < s.versions.next_block
  pub has_rows : (b : ℕ) → IsListed s.versions b → 0 < written_of s.versions b
  -- no live version shows more rows of a block than its files hold, and no two read them as other columns
  pub covered : IsCovered s.versions
  pub alike : AreAlike s.versions
  pub apart : (b : ℕ) → IsListed s.versions b → Contains s.versions.retired b → ⊥
  pub small : s.versions.next_block ≤ 2 ^ 52
