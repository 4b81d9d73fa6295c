-- Sources of the parts of tables: what they show, the law that they keep, and what a call of one does. A table lies in
-- parts, each of rows of one partition. QuestDB documentation, "Time partitions", "Designated timestamp".
use Rattle.std.specs.Prelude.{◌≡◌, ℕ, ◌-◌, ◌<◌, ◌≤◌, ◌&&◌, nat_le, List, [], ◌++◌, Option, Some, IfSome, All, drop, take, filter, length, map, slice_index_or}
use Rattle.std.specs.List.{flat_map}
use Rattle.qd_base.specs.declared.part.Part.{Part}
use Rattle.qd_base.specs.declared.schema.Col.{Col}
use Rattle.qd_base.specs.declared.schema.Schema.{Schema}
use Rattle.qd_base.specs.declared.schema.PartUnit.TheVariants as unit
use Rattle.qd_base.specs.Database.{Database, StoredTable, schemas_of}
use Rattle.qd_base.specs.Lawful.{AreSchemas, HasKinds}
use Rattle.qd_base.specs.Rows.{Row, time_of}
use Rattle.qd_io.specs.Ends.{HasRisen}
use Rattle.qd_block.specs.Blocks.{Block, kinds_in}
use Rattle.qd_manifest.specs.Spelling.{AreParts, no_part}
use Rattle.qd_rows.specs.Sets.{absent}
use Rattle.qd_scan.specs.declared.fault.PartFault.{PartFault}
use Rattle.qd_scan.specs.declared.fault.PartFault.TheVariants as fault

-- the rows with a time from one moment to another, both among them, in order
abbrev pub rows_between : ℕ → ℕ → ℕ → List Row → List Row
rows_between col lo hi rows = filter (λ r. nat_le lo (time_of col r) && nat_le (time_of col r) hi) rows

-- the rows of a block as those of a table, which may have got columns since: there they hold what a row lacks
abbrev pub table_rows : List Col → Block → List Row
table_rows cols b = map (λ r. r ++ absent (drop (length b.kinds) cols)) b.rows

-- What a source of parts shows at a moment.
pub record SourceView : Type 0 where
  -- what its tables look like, in order of creation, and the parts of each, in order of time
  pub schemas : List Schema
  pub parts : List (List Part)
  -- the tables with their rows, where it tells them
  pub database : Option Database
  -- how many calls of what it reads from have failed
  pub faults : ℕ
  -- how often it has found bytes damaged, and where the last time: the file, and the byte in it
  pub damages : ℕ
  pub last_damage : Option (ℕ × ℕ)

abbrev pub no_schema : Schema
no_schema = record { name = []; cols = []; time_col = 0; unit = unit.Day; keys = [] }

abbrev pub no_table : StoredTable
no_table = record { schema = no_schema; rows = [] }

-- a table's schema, its parts, one of them, and its rows in a database
abbrev pub schema_at : SourceView → ℕ → Schema
schema_at s table = slice_index_or s.schemas table no_schema

abbrev pub parts_at : SourceView → ℕ → List Part
parts_at s table = slice_index_or s.parts table []

abbrev pub part_at : SourceView → ℕ → ℕ → Part
part_at s table i = slice_index_or (parts_at s table) i no_part

abbrev pub rows_at : Database → ℕ → List Row
rows_at db table = (slice_index_or db table no_table).rows

-- a table's rows in one of its parts
abbrev pub rows_in_part : ℕ → List Row → Part → List Row
rows_in_part col rows p = rows_between col p.lo p.hi rows

-- A told database has the tables that are shown, and each of their rows lies in a part.
pub record Tells (s : SourceView) (db : Database) : Type 0 where
  pub schemas : schemas_of db ≡ s.schemas
  pub rows : (table : ℕ) → table < length s.schemas → flat_map (rows_in_part (schema_at s table).time_col (rows_at db table)) (parts_at s table) ≡ rows_at db table

-- The law of a source: its schemas are such as lawful transactions leave; the parts of a table stand in order of time,
-- each in one partition, and no two of them share a time.
pub record IsSource (s : SourceView) : Type 0 where
  pub schemas : AreSchemas s.schemas
  pub parts : (table : ℕ) → table < length s.schemas → AreParts (schema_at s table) (parts_at s table)
  pub told : IfSome s.database (Tells s)

-- The law of a block that is given for a part: it has the part's rows and as many columns, of the kinds of the table's
-- first ones; its cells fit them; and its first and last times are the part's.
pub record IsBlockOf (s : Schema) (p : Part) (b : Block) : Type 0 where
  pub rows : length b.rows ≡ p.rows
  pub columns : length b.kinds ≡ p.cols
  pub kinds : b.kinds ≡ take p.cols (kinds_in s.cols)
  pub time_col : b.time_col ≡ s.time_col
  pub fit : All (HasKinds (take p.cols s.cols)) b.rows
  pub first : time_of s.time_col (slice_index_or b.rows 0 []) ≡ p.lo
  pub last : time_of s.time_col (slice_index_or b.rows (p.rows - 1) []) ≡ p.hi

-- a block has the rows of a part of a told database
abbrev pub HasRowsOf : SourceView → (table i : ℕ) → Block → Type 0
HasRowsOf s table i b = IfSome s.database (λ db. table_rows (schema_at s table).cols b ≡ rows_in_part (schema_at s table).time_col (rows_at db table) (part_at s table i))

-- A call leaves the tables as they are, and no count falls.
pub record Stays (old new : SourceView) : Type 0 where
  pub schemas : new.schemas ≡ old.schemas
  pub parts : new.parts ≡ old.parts
  pub database : new.database ≡ old.database
  pub faults : old.faults ≤ new.faults
  pub damages : old.damages ≤ new.damages

-- What a fault says of a call: the count of faults has risen; or that of damages, and the last one was found there.
abbrev pub HasCause : (old new : SourceView) → PartFault → Type 0
HasCause old new fault.Vol = HasRisen old.faults new.faults
HasCause old new (fault.Damaged file at) = HasRisen old.damages new.damages × (new.last_damage ≡ Some (file, at))
HasCause old new fault.Memory = Unit {0}
