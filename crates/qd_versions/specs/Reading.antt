-- Which part is read.
use Rattle.std.specs.Prelude.{◌≡◌, ℕ, Some, slice_get}
use Rattle.qd_base.specs.declared.part.Part.{Part}
use Rattle.qd_manifest.specs.declared.shape.TableParts.{TableParts}
use Rattle.qd_catalog.specs.declared.version.Version.{Version}
use Rattle.qd_catalog.specs.Versions.{Versions, version_at}

-- A live version has a table at a position, and the table a part at a position.
pub record IsPartAt (v : Versions) (row table i : ℕ) (t : TableParts) (p : Part) : Type 0 where
  pub version : Version
  pub live : version_at v row ≡ Some version
  pub its_table : slice_get version.shape table ≡ Some t
  pub its_part : slice_get t.parts i ≡ Some p
