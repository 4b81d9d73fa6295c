-- Partitions as rows are counted in them, one after another.
use Rattle.std.specs.Prelude.{ℕ, ◌+◌, ◌==◌, pos, if◌then◌else◌, List, [], ◌∷◌}
use Rattle.qd_base.specs.declared.cell.Cell.TheVariants as cell
use Rattle.qd_base.specs.declared.schema.PartUnit.{PartUnit}
use Rattle.qd_base.specs.Rows.{Row}
use Rattle.qd_time.specs.Units.{name_of}
use Rattle.qd_query.specs.declared.partitions.Partition.{Partition}

-- the row of a partition: its name, how many rows it has, and the times of its first and last one
abbrev pub shown_row : PartUnit → Partition → Row
shown_row unit p = cell.Text (name_of unit p.first) ∷ cell.Long (pos p.rows) ∷ cell.Time p.first ∷ cell.Time p.last ∷ []

-- a partition of one row, and one with a row more
abbrev pub begun : ℕ → ℕ → Partition
begun start time = record { start = start; rows = 1; first = time; last = time }

abbrev pub grown : ℕ → ℕ → Partition → Partition
grown start time p = record { start = start; rows = p.rows + 1; first = p.first; last = time }

-- a row of a time more: in the last partition, where it has that start, or in one more
abbrev pub counted : ℕ → ℕ → List Partition → List Partition
counted start time [] = begun start time ∷ []
counted start time (p ∷ []) = if p.start == start then grown start time p ∷ [] else p ∷ begun start time ∷ []
counted start time (p ∷ q ∷ ps) = p ∷ counted start time (q ∷ ps)
