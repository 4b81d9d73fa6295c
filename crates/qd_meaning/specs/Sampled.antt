-- SAMPLE BY: rows of equal length in time, and what stands for those without rows. QuestDB documentation, "SAMPLE BY".
use Rattle.std.specs.Prelude.{ℕ, zero, suc, ◌+◌, ◌-◌, ◌*◌, ◌/◌, ◌==◌, nat_le, Bool, true, false, if◌then◌else◌, List, [], ◌∷◌, ◌++◌, map, filter, Option, Some, None, ℤ}
use Rattle.std.specs.List.{flat_map, zip}
use Rattle.qd_base.specs.declared.cell.Cell.{Cell}
use Rattle.qd_base.specs.declared.cell.Cell.TheVariants as cell
use Rattle.qd_base.specs.Rows.{Row, time_of}
use Rattle.qd_time.specs.declared.buckets.Stride.{Stride}
use Rattle.qd_time.specs.declared.buckets.Align.{Align}
use Rattle.qd_time.specs.declared.buckets.Align.TheVariants.{Calendar, First}
use Rattle.qd_base.specs.declared.unit.TimeUnit.{TimeUnit}
use Rattle.qd_base.specs.declared.unit.TimeUnit.TheVariants as unit
use Rattle.qd_time.specs.Calendar.{second_micros, minute_micros, hour_micros, day_micros}
use Rattle.qd_time.specs.Buckets.{bucket_start, bucket_end}
use Rattle.qd_meaning.specs.declared.parts.Agg.{Agg}
use Rattle.qd_meaning.specs.declared.parts.Fill.{Fill}
use Rattle.qd_meaning.specs.declared.parts.Fill.TheVariants as fill
use Rattle.qd_meaning.specs.declared.parts.SampleSpec.{SampleSpec}
use Rattle.qd_meaning.specs.Joined.{last_or}
use Rattle.qd_meaning.specs.Grouped.{aggregates, keys_of, rows_of}

-- ---- buckets

-- buckets begin on the calendar at an offset in minutes, or at the first row's time
abbrev pub align_of : Option ℤ → ℕ → Align
align_of None t0 = First t0
align_of (Some minutes) t0 = Calendar minutes

-- the microseconds of a unit, of a month and a year of the shortest one
abbrev pub least_micros : TimeUnit → ℕ
least_micros unit.Micro = 1
least_micros unit.Milli = 1000
least_micros unit.Second = second_micros
least_micros unit.Minute = minute_micros
least_micros unit.Hour = hour_micros
least_micros unit.Day = day_micros
least_micros unit.Month = 28 * day_micros
least_micros unit.Year = 365 * day_micros

-- no more buckets than these have rows between two moments: all but the first begin between them, a stride apart
abbrev pub most_starts : Stride → ℕ → ℕ → ℕ
most_starts stride first last = (last - first) / (stride.n * least_micros stride.unit) + 2

abbrev pub iterated : (ℕ → ℕ) → ℕ → ℕ → List ℕ
iterated next zero start = []
iterated next (suc n) start = start ∷ iterated next n (next start)

-- the starts of the buckets from the one of the first moment to the one of the last
abbrev pub starts : Stride → Align → ℕ → ℕ → List ℕ
starts stride align first last =
    filter (λ start. nat_le start last) (iterated (bucket_end stride align) (most_starts stride first last) (bucket_start stride align first))

-- the rows of a bucket
abbrev pub in_bucket : Stride → Align → ℕ → ℕ → List Row → List Row
in_bucket stride align time_col start rows = filter (λ row. bucket_start stride align (time_of time_col row) == start) rows

-- ---- rows of a bucket and key

abbrev pub sample_row : ℕ → Row → Row → Row
sample_row start key cells = cell.Time start ∷ key ++ cells

-- without a fill a bucket and key without rows gives no row
abbrev pub row_of : List Agg → ℕ → Row → List Row → List Row
row_of aggs start key [] = []
row_of aggs start key (r ∷ rs) = sample_row start key (aggregates aggs (r ∷ rs)) ∷ []

-- the cell that stands for an aggregate without rows, behind its cell in the bucket before
abbrev pub fill_cell : Fill → Cell → Cell
fill_cell fill.Skip before = cell.Null
fill_cell fill.Null before = cell.Null
fill_cell fill.Prev before = before
fill_cell (fill.Number n) before = cell.Long n

abbrev pub filled : List Agg → List Fill → Row → List Row → Row
filled aggs fills before [] = map (λ (f : Fill × Cell). fill_cell f.0 f.1) (zip fills before)
filled aggs fills before (r ∷ rs) = aggregates aggs (r ∷ rs)

-- one fill serves all aggregates
abbrev pub each_fill : List Fill → List Agg → List Fill
each_fill (f ∷ []) aggs = map (λ a. f) aggs
each_fill fills aggs = fills

abbrev pub is_skip : Fill → Bool
is_skip fill.Skip = true
is_skip _ = false

abbrev pub skips : List Fill → Bool
skips [] = true
skips (f ∷ fs) = is_skip f

-- ---- the whole

-- each bucket in order, in it the keys with rows in order of first appearance over the whole
abbrev pub unfilled : SampleSpec → Align → ℕ → List Row → List ℕ → List Row → List Row
unfilled spec align time_col keys buckets rows =
    flat_map (λ start. flat_map (λ key. row_of spec.group.aggs start key (rows_of spec.group.keys key (in_bucket spec.stride align time_col start rows))) keys) buckets

-- each bucket in order, in it each key, with its aggregates in the bucket before
abbrev pub filled_from : SampleSpec → Align → ℕ → List Row → List ℕ → List Row → List Row → List Row
filled_from spec align time_col keys [] befores rows = []
filled_from spec align time_col keys (start ∷ more) befores rows =
    let here = in_bucket spec.stride align time_col start rows in
    let now = map (λ k. filled spec.group.aggs (each_fill spec.fills spec.group.aggs) k.1 (rows_of spec.group.keys k.0 here)) (zip keys befores) in
    map (λ k. sample_row start k.0 k.1) (zip keys now) ++ filled_from spec align time_col keys more now rows

abbrev pub nulls : List Agg → Row
nulls aggs = map (λ a. cell.Null) aggs

abbrev pub sampled_over : SampleSpec → Align → ℕ → List ℕ → List Row → List Row
sampled_over spec align time_col buckets rows =
    let keys = keys_of spec.group.keys rows in
    if skips spec.fills then unfilled spec align time_col keys buckets rows
    else filled_from spec align time_col keys buckets (map (λ k. nulls spec.group.aggs) keys) rows

-- One row for each bucket and key: the bucket's start, its keys, its aggregates. The rows stand in order of time; no rows give none.
abbrev pub sampled : SampleSpec → ℕ → List Row → List Row
sampled spec time_col [] = []
sampled spec time_col (r ∷ rs) =
    let t0 = time_of time_col r in
    let align = align_of spec.offset t0 in
    sampled_over spec align time_col (starts spec.stride align t0 (time_of time_col (last_or r rs))) (r ∷ rs)
