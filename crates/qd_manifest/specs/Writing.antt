-- What is short enough for the fields of a manifest.
use Rattle.std.specs.Prelude.{◌^◌, ◌<◌, List, length, All}
use Rattle.qd_base.specs.declared.part.Part.{Part}
use Rattle.qd_fields.specs.Spelling.{FitsSchema}
use Rattle.qd_manifest.specs.declared.shape.TableParts.{TableParts}

abbrev pub FitsPart : Part → Type 0
FitsPart p = p.cols < 2 ^ 16

pub record FitsTable (t : TableParts) : Type 0 where
  pub schema : FitsSchema t.schema
  pub each_part : All FitsPart t.parts

pub record FitsShape (tables : List TableParts) : Type 0 where
  pub few : length tables < 2 ^ 16
  pub each : All FitsTable tables
