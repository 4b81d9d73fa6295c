-- Which right row each left row takes, by positions.
use Rattle.std.specs.Prelude.{◌≡◌, ℕ, zero, suc, ◌+◌, ◌<◌, ◌≤◌, ◌==◌, ◌&&◌, Bool, List, [], ◌++◌, Option, Some, None, if◌then◌else◌, length, slice_index, slice_index_or}
use Rattle.qd_base.specs.Rows.{Row}
use Rattle.qd_expr.specs.Passing.{row_in}
use Rattle.qd_meaning.specs.Joined.{is_early}
use Rattle.qd_rows.specs.Runs.{Spot}
use Rattle.qd_rows.specs.Sets.{Joined, ResultRows, absent, IsRowAt}

-- the last of the first n positions that passes a test
abbrev pub last_spot : (ℕ → Bool) → ℕ → Option ℕ
last_spot p zero = None
last_spot p (suc n) = if p n then Some n else last_spot p n

-- the position of the last right row with a left row's number, and with a time that is early enough
abbrev pub choice : Bool → List ℕ → List ℕ → List ℕ → List ℕ → ℕ → Option ℕ
choice strict left_numbers left_times right_numbers right_times i =
    last_spot (λ j. (slice_index left_numbers i == slice_index right_numbers j) && is_early strict (slice_index left_times i) (slice_index right_times j)) (length right_times)

-- no number is below an earlier one
abbrev pub IsRising : List ℕ → Type 0
IsRising times = (i j : ℕ) → i ≤ j → j < length times → slice_index times i ≤ slice_index times j

-- for each number the last of the first n positions at which it stands
abbrev pub AreLast : List ℕ → ℕ → List (Option ℕ) → Type 0
AreLast numbers n last = (k : ℕ) → k < length last → slice_index_or last k None ≡ last_spot (λ j. k == slice_index numbers j) n

-- no choice, or one of so many rows
abbrev pub IsChoice : ℕ → Option ℕ → Type 0
IsChoice n None = Unit {0}
IsChoice n (Some j) = j < n

-- a set of both sides' columns and blocks, without rows
abbrev pub both_sides : ResultRows → ResultRows → ResultRows
both_sides left right = record { left = left.left; right = Some right.left; blocks = left.blocks ++ right.blocks; places = [] }

abbrev pub no_place : Joined
no_place = ((0, 0), None)

-- where a row of a set lies
abbrev pub place_in : ResultRows → ℕ → Spot
place_in s j = (slice_index_or s.places j no_place).0

-- the place of a right row where so many blocks stand before its own
abbrev pub moved : ℕ → ResultRows → Option ℕ → Option Spot
moved shift right None = None
moved shift right (Some j) = Some (shift + (place_in right j).0, (place_in right j).1)

abbrev pub IsThere : ResultRows → Option ℕ → Type 0
IsThere right None = Unit {0}
IsThere right (Some j) = IsRowAt right.blocks right.left (place_in right j)

-- a right row, or what stands for a missing one
abbrev pub right_cells : ResultRows → Option ℕ → Row
right_cells right None = absent right.left
right_cells right (Some j) = row_in right j

-- a left row beside the right row that it takes
abbrev pub row_beside : ResultRows → ResultRows → List (Option ℕ) → ℕ → Row
row_beside left right choices i = row_in left i ++ right_cells right (slice_index_or choices i None)
