-- Where the buckets of some times start.
use Rattle.std.specs.Prelude.{◌≡◌, ℕ, ◌+◌, ◌<◌, ◌≤◌, nat_le, Bool, false, List, Option, None, Some, length, slice_index}
use Rattle.qd_base.specs.declared.limits.TheConstants.{MAX_TIME}
use Rattle.qd_time.specs.declared.buckets.Stride.{Stride}
use Rattle.qd_time.specs.declared.buckets.Align.{Align}
use Rattle.qd_time.specs.Buckets.{bucket_start, IsReached, IsStart}

-- times in order, that buckets reach
pub record AreTimes (align : Align) (times : List ℕ) : Type 0 where
  pub high : (i : ℕ) → i < length times → slice_index times i ≤ MAX_TIME
  pub reached : (i : ℕ) → i < length times → IsReached align (slice_index times i)
  pub rise : (i j : ℕ) → i ≤ j → j < length times → slice_index times i ≤ slice_index times j

-- starts of buckets, in order, and among them that of each of some times
pub record AreStarts (stride : Stride) (align : Align) (times starts : List ℕ) : Type 0 where
  pub rise : (a b : ℕ) → a < b → b < length starts → slice_index starts a < slice_index starts b
  pub each : (k : ℕ) → k < length starts → IsStart stride align (slice_index starts k)
  pub has : (i : ℕ) → i < length times → (k : ℕ) × (k < length starts) × (slice_index starts k ≡ bucket_start stride align (slice_index times i))

-- each is the start of the bucket of one of some times
abbrev pub StartsOfRows : Stride → Align → List ℕ → List ℕ → Type 0
StartsOfRows stride align times starts = (k : ℕ) → k < length starts → (i : ℕ) × (i < length times) × (slice_index starts k ≡ bucket_start stride align (slice_index times i))

-- for each time the position of the last start that isn't after it
pub record AreNumbers (times starts numbers : List ℕ) : Type 0 where
  pub count : length numbers ≡ length times
  pub below : (i : ℕ) → i < length times → slice_index numbers i < length starts
  pub reached : (i : ℕ) → i < length times → slice_index starts (slice_index numbers i) ≤ slice_index times i
  pub last : (i : ℕ) → i < length times → slice_index numbers i + 1 < length starts → slice_index times i < slice_index starts (slice_index numbers i + 1)

-- whether a time is at an end or behind it; no end is none
abbrev pub is_past : Option ℕ → ℕ → Bool
is_past None time = false
is_past (Some end) time = nat_le end time

-- a start that isn't after a moment, if there is one
abbrev pub IsWithin : Option ℕ → ℕ → Option ℕ → Type 0
IsWithin start last None = (s : ℕ) → start ≡ Some s → last < s
IsWithin start last (Some s) = (start ≡ Some s) × (s ≤ last)
