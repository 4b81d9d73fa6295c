-- Rows that a next version puts behind those of parts of the current one, and how many rows the files of its blocks hold.
use Rattle.std.specs.Prelude.{◌≡◌, ℕ, List, map, All}
use Rattle.std.specs.Arc.{arc_value}
use Rattle.qd_base.specs.declared.part.Part.{Part}
use Rattle.qd_catalog.specs.Versions.{Versions, written_of}
use Rattle.qd_apply.specs.Next.{TableGrowth}
use Rattle.qd_manifest.specs.declared.shape.TableParts.{TableParts}
use Rattle.qd_versions.specs.declared.published.GrownBlock.{GrownBlock}
use Rattle.qd_versions.specs.Reading.{IsPartAt}

-- rows behind those of a part, as a merge gives them
abbrev pub growth_of : GrownBlock → TableGrowth
growth_of g = record { table = g.table; part = g.part; rows = arc_value g.rows }

-- how many rows were written to the blocks of parts, and of tables
abbrev pub written_to : Versions → List Part → List ℕ
written_to v parts = map (λ p. written_of v p.block) parts

abbrev pub rows_written : Versions → List TableParts → List (List ℕ)
rows_written v shape = map (λ t. written_to v t.parts) shape

-- The current version has the part, which shows all rows that were written to its block.
pub record IsShownWhole (v : Versions) (g : GrownBlock) : Type 0 where
  pub table : TableParts
  pub part : Part
  pub there : IsPartAt v v.current g.table g.part table part
  pub all : part.rows ≡ written_of v part.block

-- So it is of each part that rows are put behind.
abbrev pub AreShownWhole : Versions → List GrownBlock → Type 0
AreShownWhole v grown = All (IsShownWhole v) grown
