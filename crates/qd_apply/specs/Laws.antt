-- The laws of merging transactions into the parts of a version.
use Rattle.std.specs.Prelude.{◌≡◌, ℕ, zero, suc, ◌+◌, ◌*◌, ◌^◌, ◌<◌, ◌≤◌, ◌++◌, ◌⊎◌, List, [], ◌∷◌, Some, All, Contains, drop, length, map, nat_eq, slice_get, slice_index_or, take}
use Rattle.std.specs.List.{AllByRecursion, IsDistinct}
use Rattle.qd_base.specs.declared.op.Entry.{Entry}
use Rattle.qd_base.specs.declared.part.Part.{Part}
use Rattle.qd_base.specs.Database.{Database, StoredTable, schemas_of}
use Rattle.qd_base.specs.Lawful.{AreSchemas, IsRowOf, Lawful, LawfulFrom}
use Rattle.qd_base.specs.Replay.{after, replay}
use Rattle.qd_base.specs.Schemas.{HasNoSetKeys}
use Rattle.qd_block.specs.Blocks.{Block, kinds_in}
use Rattle.qd_manifest.specs.declared.shape.Manifest.{Manifest}
use Rattle.qd_manifest.specs.declared.shape.TableParts.{TableParts}
use Rattle.qd_manifest.specs.declared.shape.TheConstants.{BLOCKS_PER_TRANSACTION}
use Rattle.qd_manifest.specs.Spelling.{blocks_of, no_part, IsManifest}
use Rattle.qd_rows.specs.Sets.{no_block}
use Rattle.qd_apply.specs.Arrivals.{all_settled, arrivals}
use Rattle.qd_apply.specs.Next.{grown_after, made_after, manifest_after, versions_blocks, TableGrowth}
use Rattle.qd_apply.specs.Stands.{StandsFor}

-- tables as lawful transactions leave them: of sound schemas, and each row has a cell of its kind for each column
pub record IsDatabase (db : Database) : Type 0 where
  pub schemas : AreSchemas (schemas_of db)
  pub rows : AllByRecursion (λ (t : StoredTable). All (IsRowOf t.schema) t.rows) db

-- Replay is, table by table, the rows so far made as wide as the table is then, with the rows that came put one by one:
-- widening a table commutes with putting rows. Keys may be set by the first of the transactions alone, since they hold
-- for rows that come after.
abbrev pub ArrivalsAreReplayed : Type 0
ArrivalsAreReplayed = (db : Database) (entries : List Entry)
    → IsDatabase db → LawfulFrom (schemas_of db) entries → HasNoSetKeys (drop 1 entries)
    → replay db entries ≡ all_settled db (arrivals (schemas_of db) entries)

-- ---- rows that go behind those of a part

-- Counts for the parts of tables: as many as a table has parts.
abbrev pub CountsParts : List TableParts → List (List ℕ) → Type 0
CountsParts shape written = map length written ≡ map (λ t. length t.parts) shape

-- the parts of the table of a number, and one of them
abbrev pub parts_at : List TableParts → ℕ → List Part
parts_at [] table = []
parts_at (t ∷ ts) zero = t.parts
parts_at (t ∷ ts) (suc table) = parts_at ts table

abbrev pub grown_part : List TableParts → TableGrowth → Part
grown_part shape g = slice_index_or (parts_at shape g.table) g.part no_part

-- the number of the block whose files they go into
abbrev pub growth_block : List TableParts → TableGrowth → ℕ
growth_block shape g = (grown_part shape g).block

-- They go behind those of a part of a version that shows all rows that its block's files hold, and they are of its
-- columns.
pub record IsGrowth (shape : List TableParts) (written : List (List ℕ)) (g : TableGrowth) : Type 0 where
  pub table : TableParts
  pub part : Part
  pub its_table : slice_get shape g.table ≡ Some table
  pub its_part : slice_get table.parts g.part ≡ Some part
  pub all : part.rows ≡ slice_index_or (slice_index_or written g.table []) g.part 0
  pub kinds : g.rows.kinds ≡ take part.cols (kinds_in table.schema.cols)
  pub time_col : g.rows.time_col ≡ table.schema.time_col
  pub some : 0 < length g.rows.rows

-- What a block shows is a front of what it showed, or that with rows behind.
abbrev pub GoesOnFrom : List TableParts → (ℕ → Block) → List TableGrowth → (ℕ → Block) → ℕ → Type 0
GoesOnFrom shape old grown new b =
    ((k : ℕ) × (new b ≡ record (old b) { rows = take k (old b).rows }))
    ⊎ ((g : TableGrowth) × Contains grown g × (growth_block shape g ≡ b) × (new b ≡ record (old b) { rows = (old b).rows ++ g.rows.rows }))

-- ---- the next version

-- Merging transactions into the parts of a version keeps what a version is: the next version's tables, over the blocks
-- as it shows them, stand for the database replayed by the transactions; and they have a manifest. Each old block that
-- it names shows a front of its rows, or has got rows behind; the new ones are those that are written.
pub record Merges (blocks : ℕ → Block) (written : List (List ℕ)) (split base : ℕ) (m : Manifest) (db : Database) (entries : List Entry) : Type 0 where
  pub stands : StandsFor (versions_blocks blocks written split m entries) (manifest_after blocks written split m entries).shape (replay db entries)
  pub manifest : IsManifest (base + length entries) (manifest_after blocks written split m entries)
  pub goes_on : (b : ℕ) → Contains (blocks_of (manifest_after blocks written split m entries).shape) b → b < m.next_block
      → GoesOnFrom m.shape blocks (grown_after blocks written split m.shape entries) (versions_blocks blocks written split m entries) b
  pub made : (k : ℕ) → k < length (made_after blocks written split m.shape entries)
      → versions_blocks blocks written split m entries (m.next_block + k) ≡ slice_index_or (made_after blocks written split m.shape entries) k no_block
  -- each number below the next one's names an old block, and each other one from there on a new block that is named
  pub old_named : (b : ℕ) → Contains (blocks_of (manifest_after blocks written split m entries).shape) b → b < m.next_block → Contains (blocks_of m.shape) b
  pub new_named : (k : ℕ) → k < length (made_after blocks written split m.shape entries) → Contains (blocks_of (manifest_after blocks written split m entries).shape) (m.next_block + k)
  -- rows go behind those of parts that show all that their files hold, and into the files of no block twice
  pub grown : All (IsGrowth m.shape written) (grown_after blocks written split m.shape entries)
  pub apart : IsDistinct nat_eq (map (growth_block m.shape) (grown_after blocks written split m.shape entries))

-- It holds whatever the files hold, and whatever number of rows stays where it lies. None of the transactions but the
-- first sets keys. There is room: for the numbers of blocks, and for those of a table's rows.
abbrev pub MergingStands : Type 0
MergingStands = (blocks : ℕ → Block) (written : List (List ℕ)) (split base : ℕ) (m : Manifest) (db : Database) (entries : List Entry)
    → IsManifest base m → StandsFor blocks m.shape db
    → LawfulFrom (schemas_of db) entries → HasNoSetKeys (drop 1 entries)
    → (base + length entries) * BLOCKS_PER_TRANSACTION < 2 ^ 64 → All (λ t. length t.rows < 2 ^ 64) (replay db entries)
    → Merges blocks written split base m db entries

-- A table has at most as many rows as transactions may insert cells: a version of few enough transactions has room.
abbrev pub RowsAreFew : Type 0
RowsAreFew = (history : List Entry) → Lawful history → All (λ t. length t.rows ≤ length history * BLOCKS_PER_TRANSACTION) (after history)
