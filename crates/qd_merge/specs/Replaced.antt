-- Which rows of a block the rows of a batch replace.
use Rattle.std.specs.Prelude.{◌≡◌, ℕ, ◌<◌, ◌≤◌, Bool, false, List, [], ◌∷◌, ◌==◌, take, drop, map, length, slice_index_or}
use Rattle.std.specs.List.{list_any}
use Rattle.qd_base.specs.declared.schema.ColType.{ColType}
use Rattle.qd_base.specs.Rows.{Row, same_on, time_of}
use Rattle.qd_merge.specs.Merged.{with_missing}

-- whether a row of a batch is equal to a row on all of the keys; with no keys none is
abbrev pub is_replaced : List ℕ → List Row → Row → Bool
is_replaced [] batch row = false
is_replaced (k ∷ ks) batch row = list_any (same_on (k ∷ ks) row) batch

-- the same for each row, as wide as columns of these kinds
abbrev pub flags_of : List ℕ → List ColType → List Row → List Row → List Bool
flags_of keys kinds batch rows = map (λ r. is_replaced keys batch (with_missing kinds r)) rows

-- The flags of a block's first rows: those rows that are left are later than the batch's rows up to a place.
pub record FlagsSoFar (col : ℕ) (keys : List ℕ) (kinds : List ColType) (batch rows : List Row) (place : ℕ) (found : List Bool) : Type 0 where
  pub few : length found ≤ length rows
  pub flags : found ≡ flags_of keys kinds batch (take (length found) rows)
  pub later : (k m : ℕ) → length found ≤ k → k < length rows → m < place → time_of col (slice_index_or batch m []) < time_of col (slice_index_or rows k [])

-- for each of the first numbers whether it stands among the others
abbrev pub stand_behind : ℕ → List ℕ → List Bool
stand_behind count numbers = map (λ n. list_any (λ m. n == m) (drop count numbers)) (take count numbers)
