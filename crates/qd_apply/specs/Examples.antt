-- Worked examples: the parts and blocks of a next version.
use Rattle.std.specs.Prelude.{◌≡◌, ℕ, ◌*◌, List, [], ◌∷◌, map}
use Rattle.qd_base.specs.declared.part.Part.{Part}
use Rattle.qd_base.specs.Database.{StoredTable}
use Rattle.qd_base.specs.Examples.{reading, readings}
use Rattle.qd_base.specs.Rows.{Row}
use Rattle.qd_block.specs.Blocks.{Block}
use Rattle.qd_manifest.specs.declared.shape.TableParts.{TableParts}
use Rattle.qd_merge.specs.Merged.{block_in}
use Rattle.qd_apply.specs.Next.{all_grown, all_made, shape_after, TableGrowth}

-- a version of one table of readings, by days: one part, block 2, with readings of seconds 10 and 30
abbrev pub day_one : ℕ → Block
day_one n = block_in readings (reading 1 10 ∷ reading 3 30 ∷ [])

abbrev pub part_of_day : Part
part_of_day = record { block = 2; rows = 2; cols = 2; lo = 10000000; hi = 30000000 }

abbrev pub version : List TableParts
version = record { schema = readings; parts = part_of_day ∷ [] } ∷ []

-- rows that came
abbrev pub came : List Row → List StoredTable
came rows = record { schema = readings; rows = rows } ∷ []

-- The parts of the next version, whose new blocks are numbered from 5 on, the rows of its new blocks, and the rows that go
-- behind those of a part: where the files of block 2 hold so many rows, and so many that stand before all late ones stay
-- where they lie.
abbrev pub parts_with : ℕ → ℕ → List Row → List (List Part)
parts_with held split rows = map (λ t. t.parts) (shape_after day_one 5 ((held ∷ []) ∷ []) split version (came rows))

abbrev pub rows_with : ℕ → ℕ → List Row → List (List Row)
rows_with held split rows = map (λ b. b.rows) (all_made day_one ((held ∷ []) ∷ []) split version (came rows))

abbrev pub grown_with : ℕ → ℕ → List Row → List TableGrowth
grown_with held split rows = all_grown day_one ((held ∷ []) ∷ []) split version (came rows)

-- some parts
abbrev pub second : ℕ → ℕ
second n = n * 1000000

abbrev pub part : ℕ → ℕ → ℕ → ℕ → Part
part block rows lo hi = record { block = block; rows = rows; cols = 2; lo = second lo; hi = second hi }

pub record WorkedExamples : Type 0 where
  -- nothing came: the part stays
  pub nothing : parts_with 2 4 [] ≡ (part_of_day ∷ []) ∷ []
  -- a late row of the day: its part is written anew, as block 5, with all three rows in order of time
  pub late : parts_with 2 4 (reading 2 20 ∷ []) ≡ (part 5 3 10 30 ∷ []) ∷ []
  pub late_rows : rows_with 2 4 (reading 2 20 ∷ []) ≡ (reading 1 10 ∷ reading 2 20 ∷ reading 3 30 ∷ []) ∷ []
  -- a row behind those of the day: the part shows it too, it goes behind the rows in the files of block 2, and no block is
  -- written
  pub behind : parts_with 2 4 (reading 2 40 ∷ []) ≡ (part 2 3 10 40 ∷ []) ∷ []
  pub behind_rows : rows_with 2 4 (reading 2 40 ∷ []) ≡ []
  pub behind_grown : grown_with 2 4 (reading 2 40 ∷ []) ≡ record { table = 0; part = 0; rows = block_in readings (reading 2 40 ∷ []) } ∷ []
  -- the late row where one row is enough to stay: the part shows that one, and block 5 has the other two
  pub split : parts_with 2 1 (reading 2 20 ∷ []) ≡ (part 2 1 10 10 ∷ part 5 2 20 30 ∷ []) ∷ []
  pub split_rows : rows_with 2 1 (reading 2 20 ∷ []) ≡ (reading 2 20 ∷ reading 3 30 ∷ []) ∷ []
  pub split_grown : grown_with 2 1 (reading 2 20 ∷ []) ≡ []
  -- a row behind those of the day, where the files of block 2 hold a third row that another version shows: nothing goes
  -- behind that; the part is written anew, or stays and the row is a part of its own
  pub past_shown : parts_with 3 4 (reading 2 40 ∷ []) ≡ (part 5 3 10 40 ∷ []) ∷ []
  pub past_shown_split : parts_with 3 1 (reading 2 40 ∷ []) ≡ (part_of_day ∷ part 5 1 40 40 ∷ []) ∷ []
  pub past_shown_grown : grown_with 3 1 (reading 2 40 ∷ []) ≡ []
  -- a row of the next day: the part stays, and a new one stands behind it
  pub next_day : parts_with 2 4 (reading 4 90000 ∷ []) ≡ (part_of_day ∷ part 5 1 90000 90000 ∷ []) ∷ []
  -- rows of both days, the later one first: the day's goes behind, and one new block is written
  pub both_days : parts_with 2 4 (reading 4 90000 ∷ reading 2 40 ∷ []) ≡ (part 2 3 10 40 ∷ part 5 1 90000 90000 ∷ []) ∷ []
