-- Tables with rows that wait, in blocks in the making.
use Rattle.std.specs.Prelude.{◌≡◌, ◌≤◌, List, [], ◌++◌, Option, Some, None, IfSome, length, map, take}
use Rattle.std.specs.List.{flat_map, AllByRecursion}
use Rattle.qd_base.specs.declared.schema.Col.{Col}
use Rattle.qd_base.specs.declared.schema.Schema.{Schema}
use Rattle.qd_base.specs.Database.{StoredTable, schemas_of}
use Rattle.qd_base.specs.Lawful.{AreSchemas, IsRowOf, IsSchema}
use Rattle.qd_base.specs.Rows.{Row}
use Rattle.qd_block.specs.Blocks.{Building, kinds_in}
use Rattle.qd_apply.specs.Arrivals.{wide}

-- rows that wait, and fit their table
pub record Waits (t : StoredTable) : Type 0 where
  pub schema : IsSchema t.schema
  pub fit : AllByRecursion (IsRowOf t.schema) t.rows

-- whole rows of a table's first columns, in a block in the making
pub record IsStage (s : Schema) (b : Building) : Type 0 where
  pub kinds : take (length b.kinds) (kinds_in s.cols) ≡ b.kinds
  pub time_col : b.time_col ≡ s.time_col
  pub whole : b.open_row ≡ []
  pub narrow : AllByRecursion (λ r. length r ≤ length s.cols) b.rows

-- one with all columns
pub record IsBegun (s : Schema) (b : Building) : Type 0 where
  pub kinds : b.kinds ≡ kinds_in s.cols
  pub time_col : b.time_col ≡ s.time_col
  pub whole : b.open_row ≡ []

-- the rows of earlier blocks in the making, as wide as the table
abbrev pub staged : List Col → List Building → List Row
staged cols stages = flat_map (λ b. map (wide cols) b.rows) stages

abbrev pub begun_rows : Option Building → List Row
begun_rows None = []
begun_rows (Some b) = b.rows

-- the table whose rows wait in blocks in the making: those begun before columns came, and one with all columns
abbrev pub waiting : Schema → List Building → Option Building → StoredTable
waiting s stages current = record { schema = s; rows = staged s.cols stages ++ begun_rows current }

pub record IsWaiting (s : Schema) (stages : List Building) (current : Option Building) : Type 0 where
  pub waits : Waits (waiting s stages current)
  pub each : AllByRecursion (IsStage s) stages
  pub begun : IfSome current (IsBegun s)

-- all tables, with their schemas once more
pub record AreTables (schemas : List Schema) (ts : List StoredTable) : Type 0 where
  pub same : schemas ≡ schemas_of ts
  pub lawful : AreSchemas schemas
  pub each : AllByRecursion Waits ts
