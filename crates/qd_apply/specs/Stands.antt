-- Which database the parts of a version stand for. QuestDB documentation, "Time partitions", "Designated timestamp".
use Rattle.std.specs.Prelude.{◌≡◌, ℕ, List, All, map}
use Rattle.std.specs.List.{flat_map}
use Rattle.qd_base.specs.declared.part.Part.{Part}
use Rattle.qd_base.specs.declared.schema.Col.{Col}
use Rattle.qd_base.specs.Database.{Database, schemas_of}
use Rattle.qd_base.specs.Rows.{Row}
use Rattle.qd_block.specs.Blocks.{Block, IsWhole}
use Rattle.qd_manifest.specs.declared.shape.TableParts.{TableParts}
use Rattle.qd_manifest.specs.Spelling.{schemas_in, AreParts}
use Rattle.qd_scan.specs.Sources.{table_rows, IsBlockOf}

-- the rows of parts, in order, as those of a table with these columns; a block is known by its number
abbrev pub rows_in_parts : List Col → (ℕ → Block) → List Part → List Row
rows_in_parts cols blocks parts = flat_map (λ p. table_rows cols (blocks p.block)) parts

-- The tables of a version, over blocks by their numbers, stand for a database: it has their schemas; each part's block
-- is whole and the part's; and a table's rows are those of its parts, in order, as wide as the table's columns.
pub record StandsFor (blocks : ℕ → Block) (shape : List TableParts) (db : Database) : Type 0 where
  pub schemas : schemas_in shape ≡ schemas_of db
  pub parts : All (λ t. AreParts t.schema t.parts) shape
  pub whole : All (λ t. All (λ p. IsWhole (blocks p.block)) t.parts) shape
  pub fit : All (λ t. All (λ p. IsBlockOf t.schema p (blocks p.block)) t.parts) shape
  pub rows : map (λ t. rows_in_parts t.schema.cols blocks t.parts) shape ≡ map (λ t. t.rows) db
