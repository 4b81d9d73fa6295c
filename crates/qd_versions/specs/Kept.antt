-- What is known on a told volume of the tails that a store keeps: what rows behind those of blocks go on with.
use Rattle.std.specs.Prelude.{◌≡◌, ℕ, ◌<◌, ◌≤◌, true, length, take, All, Some, Contains}
use Rattle.qd_base.specs.declared.limits.TheConstants.{MAX_COLUMNS}
use Rattle.qd_base.specs.declared.part.Part.{Part}
use Rattle.qd_block.specs.Blocks.{Block, kinds_in}
use Rattle.qd_volume.specs.Disk.{Disk}
use Rattle.qd_durable.specs.Moments.{EachNow}
use Rattle.qd_manifest.specs.declared.shape.TableParts.{TableParts}
use Rattle.qd_catalog.specs.declared.version.Version.{Version}
use Rattle.qd_catalog.specs.Versions.{Versions, lists, version_at}
use Rattle.qd_column_files.specs.Files.{HoldsBlock}
use Rattle.qd_column_files.specs.Growing.{block_behind}
use Rattle.qd_versions.specs.declared.keeping.KeptTail.{KeptTail}
use Rattle.qd_versions.specs.Stores.{Store}

-- the current version lists a block
abbrev pub IsNamed : Versions → ℕ → Type 0
IsNamed v block = lists (version_at v v.current) block ≡ true

-- A block is of the kinds by which the parts of the current version read the files of a number.
abbrev pub IsOfKinds : Versions → ℕ → Block → Type 0
IsOfKinds v block b = (x : Version) (t : TableParts) (p : Part) → version_at v v.current ≡ Some x → Contains x.shape t → Contains t.parts p → p.block ≡ block → b.kinds ≡ take p.cols (kinds_in t.schema.cols)

-- A tail is that of a block that each image holds, and that parts of the current version read.
pub record IsBehind (v : Versions) (k : KeptTail) (held : Block) (disk : Disk) : Type 0 where
  pub tail : k.tail ≡ block_behind held
  pub holds : EachNow disk (HoldsBlock k.block held)
  pub kinds : IsOfKinds v k.block held
  pub few : length held.kinds ≤ MAX_COLUMNS

-- What is known of the tails that a store keeps: that of a block which the current version names is that of the block that each
-- image holds. So it needs not be read again.
pub record KeepsTails (s : Store) (disk : Disk) : Type 0 where
  pub below : All (λ k. k.block < s.versions.next_block) s.kept
  pub each : All (λ k. IsNamed s.versions k.block → (held : Block) × IsBehind s.versions k held disk) s.kept
