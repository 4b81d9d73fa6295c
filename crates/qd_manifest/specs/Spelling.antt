-- The manifest of a version: which manifests there are, and the bytes of each. This layout is the project's own. Whole
-- numbers have their lowest byte first, in 8 bytes or in 2.
--
-- Next block (8), number of tables (2), and the tables. A table: its schema as qd_fields spells it, number of parts (8), and
-- the parts. A part: block (8), rows (8), columns (2), first time (8), last time (8).
use Rattle.std.specs.Prelude.{◌≡◌, ℕ, ◌+◌, ◌*◌, ◌^◌, ◌<◌, ◌≤◌, List, ◌∷◌, ◌++◌, length, map, nat_eq, sum_by, All, slice_index_or}
use Rattle.std.specs.List.{flat_map, IsDistinct}
use Rattle.qd_base.specs.declared.limits.TheConstants.{MAX_TIME}
use Rattle.qd_base.specs.declared.part.Part.{Part}
use Rattle.qd_base.specs.declared.schema.Schema.{Schema}
use Rattle.qd_base.specs.Lawful.{AreSchemas}
use Rattle.qd_time.specs.Units.{unit_of, start_of}
use Rattle.qd_fields.specs.Spelling.{u16_bytes, u64_bytes, schema_bytes}
use Rattle.qd_manifest.specs.declared.shape.TableParts.{TableParts}
use Rattle.qd_manifest.specs.declared.shape.Manifest.{Manifest}
use Rattle.qd_manifest.specs.declared.shape.TheConstants.{BLOCKS_PER_TRANSACTION}

-- what is read past the end of a list of parts
abbrev pub no_part : Part
no_part = record { block = 0; rows = 0; cols = 0; lo = 0; hi = 0 }

-- A part of a table: some rows, of columns that reach past the designated one, from a first to a last time in one
-- partition.
pub record IsPart (s : Schema) (p : Part) : Type 0 where
  pub some : 1 ≤ p.rows
  pub few : p.rows < 2 ^ 64
  pub timed : s.time_col < p.cols
  pub columns : p.cols ≤ length s.cols
  pub in_order : p.lo ≤ p.hi
  pub timely : p.hi ≤ MAX_TIME
  pub together : start_of (unit_of s.unit) p.lo ≡ start_of (unit_of s.unit) p.hi
  -- one row has one time
  pub one_time : p.rows ≡ 1 → p.lo ≡ p.hi

-- The parts of a table stand in order of time, and no two of them share a time.
pub record AreParts (s : Schema) (parts : List Part) : Type 0 where
  pub each : All (IsPart s) parts
  pub apart : (i : ℕ) → i + 1 < length parts → (slice_index_or parts i no_part).hi < (slice_index_or parts (i + 1) no_part).lo
  pub few : length parts < 2 ^ 64

-- how many rows parts show
abbrev pub rows_shown : List Part → ℕ
rows_shown parts = sum_by (λ p. p.rows) parts

-- the blocks that parts name, and those that tables name, in order
abbrev pub blocks_in : List Part → List ℕ
blocks_in parts = map (λ p. p.block) parts

abbrev pub blocks_of : List TableParts → List ℕ
blocks_of tables = flat_map (λ t. blocks_in t.parts) tables

abbrev pub schemas_in : List TableParts → List Schema
schemas_in tables = map (λ t. t.schema) tables

-- The manifest of a version of this many transactions. No two parts name one block, the blocks are below the next one, and no table
-- shows more rows than its transactions may insert.
pub record IsManifest (n : ℕ) (m : Manifest) : Type 0 where
  pub next : m.next_block ≤ n * BLOCKS_PER_TRANSACTION
  pub next_fits : m.next_block < 2 ^ 64
  pub schemas : AreSchemas (schemas_in m.shape)
  pub parts : All (λ t. AreParts t.schema t.parts) m.shape
  pub below : All (λ b. b < m.next_block) (blocks_of m.shape)
  pub distinct : IsDistinct nat_eq (blocks_of m.shape)
  pub few : All (λ t. rows_shown t.parts ≤ n * BLOCKS_PER_TRANSACTION) m.shape

-- ---- the bytes

unfoldable pub part_bytes : Part → List ℕ
part_bytes p = u64_bytes p.block ++ (u64_bytes p.rows ++ (u16_bytes p.cols ++ (u64_bytes p.lo ++ u64_bytes p.hi)))

unfoldable pub table_bytes : TableParts → List ℕ
table_bytes t = schema_bytes t.schema ++ (u64_bytes (length t.parts) ++ flat_map part_bytes t.parts)

unfoldable pub manifest_bytes : Manifest → List ℕ
manifest_bytes m = u64_bytes m.next_block ++ (u16_bytes (length m.shape) ++ flat_map table_bytes m.shape)

-- Bytes spell the manifest of a version of n transactions.
pub record SpellsManifest (n : ℕ) (bytes : List ℕ) (m : Manifest) : Type 0 where
  pub sound : IsManifest n m
  pub whole : bytes ≡ manifest_bytes m
