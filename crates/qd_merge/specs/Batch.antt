-- Batches: rows that come together, in any order of time. QuestDB documentation: designated timestamp (out-of-order
-- rows), deduplication (UPSERT KEYS).
use Rattle.std.specs.Prelude.{ℕ, List, [], ◌∷◌, if◌then◌else◌}
use Rattle.std.specs.List.{list_any}
use Rattle.qd_base.specs.Rows.{Row, same_on}
use Rattle.qd_block.specs.Blocks.{in_time_order}

-- the rows behind which none stands that is equal on all of the keys
abbrev pub lasts : List ℕ → List Row → List Row
lasts keys [] = []
lasts keys (row ∷ rows) = if list_any (same_on keys row) rows then lasts keys rows else row ∷ lasts keys rows

-- rows without those that a later one replaces; with no keys none is replaced
abbrev pub last_of_equals : List ℕ → List Row → List Row
last_of_equals [] rows = rows
last_of_equals (k ∷ ks) rows = lasts (k ∷ ks) rows

-- a batch of rows: in order of time, those of one time in the order in which they came, without those that a later
-- one replaces
abbrev pub batch : ℕ → List ℕ → List Row → List Row
batch time_col keys rows = last_of_equals keys (in_time_order time_col rows)
