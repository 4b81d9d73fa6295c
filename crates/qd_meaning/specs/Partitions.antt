-- SHOW PARTITIONS. QuestDB documentation, "SHOW PARTITIONS", as far as this project has it.
use Rattle.std.specs.Prelude.{ℕ, ◌==◌, not, List, [], ◌∷◌, map, filter, length, codes, pos}
use Rattle.qd_base.specs.declared.cell.Cell.TheVariants as cell
use Rattle.qd_base.specs.declared.schema.ColType.TheVariants as kind
use Rattle.qd_base.specs.declared.schema.PartUnit.{PartUnit}
use Rattle.qd_base.specs.declared.schema.Col.{Col}
use Rattle.qd_base.specs.declared.request.Table.{Table}
use Rattle.qd_base.specs.Rows.{Row, time_of}
use Rattle.qd_base.specs.Database.{StoredTable}
use Rattle.qd_time.specs.Units.{unit_of, start_of, name_of}
use Rattle.qd_meaning.specs.Joined.{last_or}

-- the numbers of a list, each once, in order of first appearance
abbrev pub once : List ℕ → List ℕ
once [] = []
once (n ∷ ns) = n ∷ filter (λ x. not (x == n)) (once ns)

abbrev pub partition_start : PartUnit → ℕ → Row → ℕ
partition_start unit time_col row = start_of (unit_of unit) (time_of time_col row)

-- a partition's name, how many rows it has, and the times of its first and last one
abbrev pub partition_row : PartUnit → ℕ → List Row → Row
partition_row unit time_col [] = []
partition_row unit time_col (r ∷ rs) =
    cell.Text (name_of unit (time_of time_col r)) ∷ cell.Long (pos (length (r ∷ rs))) ∷ cell.Time (time_of time_col r) ∷ cell.Time (time_of time_col (last_or r rs)) ∷ []

abbrev pub partition_columns : List Col
partition_columns =
    record { name = codes "name"; kind = kind.Varchar } ∷ record { name = codes "numRows"; kind = kind.Long }
    ∷ record { name = codes "minTimestamp"; kind = kind.Time } ∷ record { name = codes "maxTimestamp"; kind = kind.Time } ∷ []

-- one row for each partition that has rows, in order of time
abbrev pub partitions : StoredTable → Table
partitions t = record {
  cols = partition_columns;
  rows =
      map (λ start. partition_row t.schema.unit t.schema.time_col (filter (λ row. partition_start t.schema.unit t.schema.time_col row == start) t.rows))
      (once (map (partition_start t.schema.unit t.schema.time_col) t.rows));
}
