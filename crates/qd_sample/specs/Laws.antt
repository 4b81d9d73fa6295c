-- What holds of every sample.
use Rattle.std.specs.Prelude.{◌≡◌, ◌↔◌, ℕ, ◌+◌, ◌<◌, ◌≤◌, true, false, All, Contains, slice_index, List, [], ◌∷◌, length, map, take, Option, None, Some, ℤ, ◌+ℤ◌, IsPermutation}
use Rattle.std.specs.List.{flat_map}
use Rattle.qd_base.specs.declared.cell.Cell.TheVariants as cell
use Rattle.qd_base.specs.declared.limits.TheConstants.{MAX_TIME}
use Rattle.qd_base.specs.Laws.{IsInOrder}
use Rattle.qd_base.specs.Rows.{Row, time_of}
use Rattle.qd_meaning.specs.declared.parts.GroupSpec.{GroupSpec}
use Rattle.qd_meaning.specs.declared.parts.SampleSpec.{SampleSpec}
use Rattle.qd_meaning.specs.Grouped.{grouped, keys_of, total, values}
use Rattle.qd_meaning.specs.Joined.{last_or}
use Rattle.qd_meaning.specs.Sampled.{align_of, in_bucket, sampled, skips, starts}
use Rattle.qd_time.specs.declared.buckets.Align.{Align}
use Rattle.qd_time.specs.declared.buckets.Stride.{Stride}
use Rattle.qd_time.specs.Buckets.{bucket_start, IsReached, IsStart, IsStride}
use Rattle.qd_value.specs.declared.bound.Bound.{Bound}

-- With a fill each bucket, from the first row's to the last row's, has one row for each key, in order of the keys' first appearance.
abbrev pub EachBucketHasEachKey : Type 0
EachBucketHasEachKey =
    (spec : SampleSpec) (time_col : ℕ) (r : Row) (rs : List Row) → skips spec.fills ≡ false
    → map (take (1 + length spec.group.keys)) (sampled spec time_col (r ∷ rs))
    ≡ flat_map (λ start. map (λ key. cell.Time start ∷ key) (keys_of spec.group.keys (r ∷ rs)))
    (starts spec.stride (align_of spec.offset (time_of time_col r)) (time_of time_col r) (time_of time_col (last_or r rs)))

-- ---- buckets

-- The starts of the buckets from that of one moment to another moment are exactly the moments of this interval at which a
-- bucket starts, rising.
pub record StartsAreAll : Type 0 where
  pub rise :
      (stride : Stride) (align : Align) (first last : ℕ) → IsStride stride → IsReached align first → first ≤ last → last ≤ MAX_TIME
      → (a b : ℕ) → a < b → b < length (starts stride align first last) → slice_index (starts stride align first last) a < slice_index (starts stride align first last) b
  pub exact :
      (stride : Stride) (align : Align) (first last : ℕ) → IsStride stride → IsReached align first → first ≤ last → last ≤ MAX_TIME
      → (t : ℕ) → (Contains (starts stride align first last) t ↔ ((bucket_start stride align first ≤ t) × (t ≤ last) × IsStart stride align t))

-- ---- grouping

-- the groups of the rows of a bucket, each behind the bucket's start; without rows there is none
abbrev pub groups_in : GroupSpec → ℕ → List Row → List Row
groups_in group start [] = []
groups_in group start (r ∷ rs) = map (λ (answer : Row). cell.Time start ∷ answer) (grouped group (r ∷ rs))

-- Without a fill a sample is grouping by bucket and keys: the groups of each bucket's rows, each of them once, and nothing else.
abbrev pub SampleIsGrouping : Type 0
SampleIsGrouping =
    (spec : SampleSpec) (time_col : ℕ) (r : Row) (rs : List Row) → skips spec.fills ≡ true
    → IsPermutation (sampled spec time_col (r ∷ rs))
    (flat_map (λ start. groups_in spec.group start (in_bucket spec.stride (align_of spec.offset (time_of time_col r)) time_col start (r ∷ rs)))
    (starts spec.stride (align_of spec.offset (time_of time_col r)) (time_of time_col r) (time_of time_col (last_or r rs))))

-- ---- sums

-- the sum of two sums, each of which may be of no number
abbrev pub plus_sum : Option ℤ → Option ℤ → Option ℤ
plus_sum None b = b
plus_sum (Some x) None = Some x
plus_sum (Some x) (Some y) = Some (x +ℤ y)

abbrev pub sum_of_sums : List (Option ℤ) → Option ℤ
sum_of_sums [] = None
sum_of_sums (a ∷ sums) = plus_sum a (sum_of_sums sums)

-- The sums of all buckets are the sum of the whole.
abbrev pub SumsOfBuckets : Type 0
SumsOfBuckets =
    (spec : SampleSpec) (time_col : ℕ) (e : Bound) (r : Row) (rs : List Row) → IsStride spec.stride → IsInOrder time_col (r ∷ rs) → All (λ row. time_of time_col row ≤ MAX_TIME) (r ∷ rs)
    → sum_of_sums (map (λ start. total (values e (in_bucket spec.stride (align_of spec.offset (time_of time_col r)) time_col start (r ∷ rs))))
    (starts spec.stride (align_of spec.offset (time_of time_col r)) (time_of time_col r) (time_of time_col (last_or r rs))))
    ≡ total (values e (r ∷ rs))
