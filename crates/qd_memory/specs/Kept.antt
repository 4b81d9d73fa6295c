-- Tables kept by partition: for each partition that has rows a part, and its block. QuestDB documentation, "Time
-- partitions", "Designated timestamp".
use Rattle.std.specs.Prelude.{◌≡◌, ℕ, ◌<◌, List, [], ◌∷◌, Option, Some, None, All, IfSome, fold, length, map, take, slice_index_or, ◌≤◌}
use Rattle.std.specs.List.{flat_map, AllByRecursion}
use Rattle.qd_base.specs.declared.part.Part.{Part}
use Rattle.qd_base.specs.declared.schema.Col.{Col}
use Rattle.qd_base.specs.declared.schema.Schema.{Schema}
use Rattle.qd_base.specs.Database.{Database, StoredTable}
use Rattle.qd_base.specs.Lawful.{AreSchemas, IsRowOf, IsSchema}
use Rattle.qd_base.specs.Rows.{Row, put, time_of}
use Rattle.qd_time.specs.Units.{start_of, unit_of}
use Rattle.qd_block.specs.Blocks.{Block, Building, kinds_in, IsWhole}
use Rattle.qd_manifest.specs.Spelling.{IsPart}
use Rattle.qd_merge.specs.Laws.{IsBatch}
use Rattle.qd_scan.specs.Sources.{SourceView, parts_at, schema_at, part_at, table_rows, IsBlockOf}
use Rattle.qd_memory.specs.declared.slots.Slot.{Slot}

-- the first moment of a row's partition
abbrev pub partition_of : Schema → Row → ℕ
partition_of s r = start_of (unit_of s.unit) (time_of s.time_col r)

-- a row of a table that lies in the partition that starts at a moment
abbrev pub LiesIn : Schema → ℕ → Row → Type 0
LiesIn s start r = IsRowOf s r × (partition_of s r ≡ start)

-- rows of one partition, with all columns of the table
pub record IsFull (s : Schema) (start : ℕ) (b : Block) : Type 0 where
  pub whole : IsWhole b
  pub kinds : b.kinds ≡ kinds_in s.cols
  pub time_col : b.time_col ≡ s.time_col
  pub fit : All (IsRowOf s) b.rows
  pub some : 0 < length b.rows
  pub together : All (λ r. partition_of s r ≡ start) b.rows

-- a batch for a table
pub record IsBatchOf (s : Schema) (b : Block) : Type 0 where
  pub whole : IsWhole b
  pub kinds : b.kinds ≡ kinds_in s.cols
  pub time_col : b.time_col ≡ s.time_col
  pub fit : All (IsRowOf s) b.rows
  pub batch : IsBatch s.time_col s.keys b.rows

-- a batch that lies in one partition
pub record IsPiece (s : Schema) (b : Block) : Type 0 where
  pub batch : IsBatchOf s b
  pub full : IsFull s (partition_of s (slice_index_or b.rows 0 [])) b

-- old rows of a partition, of the table's first columns, or none
pub record IsOldOf (s : Schema) (start : ℕ) (b : Block) : Type 0 where
  pub kinds : take (length b.kinds) (kinds_in s.cols) ≡ b.kinds
  pub time_col : b.time_col ≡ s.time_col
  pub each : AllByRecursion (LiesIn s start) (table_rows s.cols b)

-- a part, its block, and where its partition starts
pub record IsSlot (s : Schema) (x : Slot) : Type 0 where
  pub start : x.start ≡ start_of (unit_of s.unit) x.part.lo
  pub part : IsPart s x.part
  pub whole : IsWhole x.block
  pub block : IsBlockOf s x.part x.block

-- each starts before all behind it
abbrev pub AreAscending : List Slot → Type 0
AreAscending [] = Unit {0}
AreAscending (x ∷ xs) = AllByRecursion (λ y. x.start < y.start) xs × AreAscending xs

-- the partitions of a table, in order of time
pub record AreSlots (s : Schema) (xs : List Slot) : Type 0 where
  pub each : AllByRecursion (IsSlot s) xs
  pub apart : AreAscending xs

-- where the partition that starts at a moment comes among those that are there
pub record IsPlace (start : ℕ) (xs : List Slot) (at : ℕ) : Type 0 where
  pub within : at ≤ length xs
  pub before : (k : ℕ) (d : Slot) → k < at → (slice_index_or xs k d).start < start
  pub behind : (k : ℕ) (d : Slot) → at ≤ k → k < length xs → start ≤ (slice_index_or xs k d).start

-- the rows of slots, as those of a table with these columns
abbrev pub joined : List Col → List Slot → List Row
joined cols xs = flat_map (λ x. table_rows cols x.block) xs

-- rows were put into slots, one after another
pub record HasPut (s : Schema) (old : List Slot) (new : List Row) (now : List Slot) : Type 0 where
  pub slots : AreSlots s now
  pub rows : joined s.cols now ≡ fold (put s.time_col s.keys) (joined s.cols old) new

-- What is kept of a table.
pub record Kept : Type 0 where
  pub schema : Schema
  pub slots : List Slot
  pub parts : List Part
  -- rows that have come and are put into no slot yet, in the order in which they came
  pub waiting : List Row

pub record IsKept (t : Kept) : Type 0 where
  pub schema : IsSchema t.schema
  pub slots : AreSlots t.schema t.slots
  pub few : length t.slots < 18446744073709551616
  pub parts : t.parts ≡ map (λ x. x.part) t.slots
  pub waiting : All (IsRowOf t.schema) t.waiting

-- a block in the making of whole rows of a table
pub record IsBegun (s : Schema) (b : Building) : Type 0 where
  pub kinds : b.kinds ≡ kinds_in s.cols
  pub time_col : b.time_col ≡ s.time_col
  pub whole : b.open_row ≡ []

-- one that rows wait in
pub record IsWaiting (s : Schema) (b : Building) : Type 0 where
  pub begun : IsBegun s b
  pub some : 0 < length b.rows

abbrev pub waiting_in : Option Building → List Row
waiting_in None = []
waiting_in (Some b) = b.rows

-- a table as it is kept: its rows wait in a block in the making
pub record IsTable (s : Schema) (slots : List Slot) (parts : List Part) (waiting : Option Building) : Type 0 where
  pub kept : IsKept (record { schema = s; slots = slots; parts = parts; waiting = waiting_in waiting })
  pub begun : IfSome waiting (IsWaiting s)

abbrev pub IsSettled : Kept → Type 0
IsSettled t = t.waiting ≡ []

-- the table that it comes to
abbrev pub stored : Kept → StoredTable
stored t = record { schema = t.schema; rows = fold (put t.schema.time_col t.schema.keys) (joined t.schema.cols t.slots) t.waiting }

abbrev pub database_of : List Kept → Database
database_of ts = map stored ts

abbrev pub schemas_in : List Kept → List Schema
schemas_in ts = map (λ t. t.schema) ts

pub record AreTables (schemas : List Schema) (ts : List Kept) : Type 0 where
  pub same : schemas ≡ schemas_in ts
  pub lawful : AreSchemas schemas
  pub each : AllByRecursion IsKept ts

-- what settled tables show
abbrev pub source_of : List Kept → SourceView
source_of ts = record {
  schemas = schemas_in ts;
  parts = map (λ t. t.parts) ts;
  database = Some (database_of ts);
  faults = 0;
  damages = 0;
  last_damage = None;
}

-- no two parts of a table lie in one partition
abbrev pub LiesByPartition : SourceView → Type 0
LiesByPartition s = (table i j : ℕ) → table < length s.schemas → i < j → j < length (parts_at s table)
    → start_of (unit_of (schema_at s table).unit) (part_at s table i).lo < start_of (unit_of (schema_at s table).unit) (part_at s table j).lo
