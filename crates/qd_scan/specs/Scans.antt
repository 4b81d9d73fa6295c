-- What a scan gives. QuestDB documentation, "Designated timestamp", "Interval scan".
use Rattle.std.specs.Prelude.{◌≡◌, ℕ, ◌+◌, ◌<◌, ◌≤◌, List, None, IfSome, All, length, slice_index_or, take}
use Rattle.std.specs.List.{flat_map}
use Rattle.qd_base.specs.declared.part.Part.{Part}
use Rattle.qd_base.specs.Laws.{IsInOrder}
use Rattle.qd_base.specs.Lawful.{IsRowOf}
use Rattle.qd_base.specs.Rows.{Row, time_of}
use Rattle.qd_manifest.specs.Spelling.{no_part}
use Rattle.qd_rows.specs.Sets.{ResultRows, rows_in}
use Rattle.qd_scan.specs.Sources.{SourceView, part_at, parts_at, rows_at, rows_between, rows_in_part, schema_at}

-- a row has a time from one moment to another
abbrev pub IsBetween : ℕ → ℕ → ℕ → Row → Type 0
IsBetween col lo hi r = (lo ≤ time_of col r) × (time_of col r ≤ hi)

-- a set has the rows of a table of a told database with a time from one moment to another
abbrev pub HasRowsBetween : SourceView → (table lo hi : ℕ) → ResultRows → Type 0
HasRowsBetween s table lo hi set = IfSome s.database (λ db. rows_in set ≡ rows_between (schema_at s table).time_col lo hi (rows_at db table))

-- parts in order of time that share no time
pub record AreApart (parts : List Part) : Type 0 where
  pub each : All (λ p. p.lo ≤ p.hi) parts
  pub apart : (i : ℕ) → i + 1 < length parts → (slice_index_or parts i no_part).hi < (slice_index_or parts (i + 1) no_part).lo

-- What a scan has once it is past the first i parts of a table: their rows with a time in the interval, in order, all of
-- them before the parts behind.
pub record HasScanned (s : SourceView) (table lo hi i : ℕ) (set : ResultRows) : Type 0 where
  pub cols : set.left ≡ (schema_at s table).cols
  pub single : set.right ≡ None
  pub fit : All (IsRowOf (schema_at s table)) (rows_in set)
  pub order : IsInOrder (schema_at s table).time_col (rows_in set)
  pub between : All (IsBetween (schema_at s table).time_col lo hi) (rows_in set)
  pub before : (k : ℕ) → i ≤ k → k < length (parts_at s table) → All (λ r. time_of (schema_at s table).time_col r < (part_at s table k).lo) (rows_in set)
  pub rows : IfSome s.database (λ db. rows_in set ≡ rows_between (schema_at s table).time_col lo hi (flat_map (rows_in_part (schema_at s table).time_col (rows_at db table)) (take i (parts_at s table))))
