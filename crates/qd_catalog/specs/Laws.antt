-- The law of what was written to blocks.
use Rattle.std.specs.Prelude.{◌≡◌, ℕ, ◌≤◌, List, Some}
use Rattle.qd_manifest.specs.declared.shape.TableParts.{TableParts}
use Rattle.qd_catalog.specs.declared.version.Version.{Version}
use Rattle.qd_catalog.specs.Versions.{Adds, IsListed, IsOpened, Retires, SameVersions, Sweeps, Versions, parts_of, shown, version_at, written_of}

-- No live version shows more rows of a block than were written to it.
abbrev pub IsCovered : Versions → Type 0
IsCovered v = (row : ℕ) (x : Version) (b : ℕ) → version_at v row ≡ Some x → shown (parts_of x.shape) b ≤ written_of v b

-- So it is of the catalogue of one version, and each call leaves it so.
pub record CatalogsAreCovered : Type 0 where
  pub opened : (v : Versions) (n next : ℕ) (shape : List TableParts) → IsOpened v n next shape → IsCovered v
  pub reserved : (old new : Versions) → IsCovered old → SameVersions old new → IsCovered new
  pub added : (old new : Versions) (n : ℕ) (shape : List TableParts) (row : ℕ) → IsCovered old → Adds old new n shape row → IsCovered new
  pub retired : (old new : Versions) (row : ℕ) → IsCovered old → Retires old new row → IsCovered new
  pub swept : (old new : Versions) (block : ℕ) → IsCovered old → (IsListed old block → ⊥) → Sweeps old new block → IsCovered new
