-- What is asked of the rows and the parts of a sample.
use Rattle.std.specs.Prelude.{⊤, ◌≡◌, ◌⊎◌, ℕ, ◌-◌, List, length, map, slice_index, Option, Some, None, ℤ, pos, neg_ℤ, ◌≤ℤ◌}
use Rattle.qd_base.specs.Rows.{Row}
use Rattle.qd_meaning.specs.declared.parts.SampleSpec.{SampleSpec}
use Rattle.qd_meaning.specs.Grouped.{keys_of}
use Rattle.qd_meaning.specs.Sampled.{filled_from, nulls, starts}
use Rattle.qd_time.specs.declared.buckets.Align.{Align}

-- an offset of less than a day, or none
abbrev pub IsOffset : Option ℤ → Type 0
IsOffset None = ⊤
IsOffset (Some minutes) = (neg_ℤ (pos 1439) ≤ℤ minutes) × (minutes ≤ℤ pos 1439)

-- one fill, or one for each aggregate
abbrev pub FillsFit : SampleSpec → Type 0
FillsFit spec = (length spec.fills ≡ 1) ⊎ (length spec.fills ≡ length spec.group.aggs)

-- the starts of the buckets from the first of some times to the last
abbrev pub starts_of : SampleSpec → Align → List ℕ → List ℕ
starts_of spec align times = starts spec.stride align (slice_index times 0) (slice_index times (length times - 1))

-- all buckets and keys, over these buckets
abbrev pub filled_whole : SampleSpec → Align → ℕ → List ℕ → List Row → List Row
filled_whole spec align time_col buckets rows =
    let keys = keys_of spec.group.keys rows in
    filled_from spec align time_col keys buckets (map (λ k. nulls spec.group.aggs) keys) rows
