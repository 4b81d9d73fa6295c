-- How many bytes at the start of a text pass a test.
use Rattle.std.specs.Prelude.{◌≡◌, ℕ, ◌<◌, ◌≤◌, ◌==◌, Bool, true, List, length, slice_index, if◌then◌else◌}
use Rattle.std.specs.Int.{w64, trailing_zeros}

pub record Passes (test : ℕ → Bool) (text : List ℕ) (count : ℕ) : Type 0 where
  pub within : count ≤ length text
  pub pass : (k : ℕ) → k < count → test (slice_index text k) ≡ true

-- the place of the lowest bit of a mask of 16 lanes, or 16 where none is set
abbrev pub first_set : ℕ → ℕ
first_set mask = if mask == 0 then 16 else trailing_zeros w64 mask
