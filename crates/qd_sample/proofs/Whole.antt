-- Samples, put together.
use Rattle.std.proofs.Common.{◌≡◌, ℕ, ◌+◌, ◌-◌, ◌*◌, ◌/◌, ◌<◌, ◌≤◌, List, [], length, map, fold, get_or, sym, ap, ◌∙◌, subst, arith, mul-le-mul}
use Rattle.std.specs.List.{flat_map, range_with_len}
use Rattle.std.proofs.lemmas.List.{length-map}
use Rattle.qd_base.specs.declared.cell.Cell.{Cell}
use Rattle.qd_base.specs.declared.limits.TheConstants.{MAX_SAMPLED_ROWS}
use Rattle.qd_base.specs.Rows.{Row, time_of}
use Rattle.qd_group.specs.Grouping.{answers_of, same_numbers, same_rows, AreGroups}
use Rattle.qd_meaning.specs.declared.parts.Fill.{Fill}
use Rattle.qd_meaning.specs.declared.parts.SampleSpec.{SampleSpec}
use Rattle.qd_meaning.specs.Grouped.{keys_of}
use Rattle.qd_meaning.specs.Sampled.{each_fill, nulls, unfilled}
use Rattle.qd_rows.specs.Sets.{ResultRows, rows_in}
use Rattle.qd_time.specs.declared.buckets.Align.{Align}
use Rattle.qd_time.specs.Buckets.{IsStride}
use Rattle.qd_sample.specs.Cells.{bucket_rows, with_bucket}
use Rattle.qd_sample.specs.Sampling.{filled_whole, starts_of}
use Rattle.qd_sample.specs.Starts.{AreNumbers, AreStarts, AreTimes, StartsOfRows}
use Rattle.qd_sample.proofs.Agrees.{keys_are, Setting}
use Rattle.qd_sample.proofs.Filled.{deals_of, filled_is, filled_length}
use Rattle.qd_sample.proofs.StartLists.{starts_have, starts_rise, starts_start}
use Rattle.qd_sample.proofs.Unfilled.{lists_of, unfilled_is, unfilled_length}

-- all that is known of the numbers of a set's rows
pub record Known (s : ResultRows) (spec : SampleSpec) (align : Align) (times begin bn kn kfs ns fs : List ℕ) : Type 0 where
  pub strides : IsStride spec.stride
  pub are : AreTimes align times
  pub some : 0 < length times
  pub count : length times ≡ length s.places
  pub all : AreStarts spec.stride align times begin
  pub numbers : AreNumbers times begin bn
  pub keyed : AreGroups (same_rows spec.group.keys s) (length s.places) kn kfs
  pub paired : AreGroups (same_numbers bn kn) (length bn) ns fs

setting : (s : ResultRows) (spec : SampleSpec) (align : Align) (times begin bn kn kfs ns fs : List ℕ) → Known s spec align times begin bn kn kfs ns fs → (time_col : ℕ) → times ≡ map (time_of time_col) (rows_in s) → Setting s spec.group.keys spec.stride align time_col begin bn kn kfs ns fs
setting s spec align times begin bn kn kfs ns fs known time_col is = record {
  strides = known.strides;
  times = subst (AreTimes align) is known.are;
  all = subst (λ (ts : List ℕ). AreStarts spec.stride align ts begin) is known.all;
  numbers = subst (λ (ts : List ℕ). AreNumbers ts begin bn) is known.numbers;
  keyed = known.keyed;
  paired = known.paired;
}

-- the full list of starts is one for the times
pub starts_are : (spec : SampleSpec) (align : Align) (times : List ℕ) → IsStride spec.stride → AreTimes align times → 0 < length times → AreStarts spec.stride align times (starts_of spec align times)
starts_are spec align times strides are some =
    let first = get_or times 0 0 in
    let last = get_or times (length times - 1) 0 in
    let order : get_or times 0 0 ≤ get_or times (length times - 1) 0 = are.rise 0 (length times - 1) (omega arith) (omega arith) in
    let high = are.high (length times - 1) (omega arith) in
    let reached = are.reached 0 some in
    record {
      rise = starts_rise spec.stride align first last strides reached order high;
      each = starts_start spec.stride align first last strides reached order high;
      has = λ i low. starts_have spec.stride align first last strides reached order high (get_or times i 0) (are.rise 0 i (omega arith) low) (are.rise i (length times - 1) (omega arith) (omega arith));
    }

module _ (s : ResultRows) (spec : SampleSpec) (align : Align) (times begin bn kn kfs ns fs : List ℕ) (known : Known s spec align times begin bn kn kfs ns fs)
    (columns : List (List Cell)) (shown : columns ≡ map (answers_of ns (length fs) (rows_in s)) spec.group.aggs) where
  abbrev of_bucket : List ℕ
  of_bucket = map (λ f. get_or bn f 0) fs

  abbrev of_key : List ℕ
  of_key = map (λ f. get_or kn f 0) fs

  abbrev gives : List Row
  gives = flat_map (bucket_rows s spec.group.keys kfs columns (map (λ f. get_or kn f 0) fs) begin (lists_of (map (λ f. get_or bn f 0) fs) (map (λ f. get_or kn f 0) fs) (length fs) (length kfs) (length begin))) (range_with_len 0 (length begin))

  -- without a fill
  pub unfilled_whole : StartsOfRows spec.stride align times begin → (time_col : ℕ) → times ≡ map (time_of time_col) (rows_in s)
      → flat_map (bucket_rows s spec.group.keys kfs columns (map (λ f. get_or kn f 0) fs) begin (lists_of (map (λ f. get_or bn f 0) fs) (map (λ f. get_or kn f 0) fs) (length fs) (length kfs) (length begin))) (range_with_len 0 (length begin))
      ≡ unfilled spec align time_col (keys_of spec.group.keys (rows_in s)) (starts_of spec align times) (rows_in s)
  unfilled_whole rows time_col is =
      let whole = starts_are spec align times known.strides known.are known.some in
      unfilled_is s spec align time_col begin bn kn kfs ns fs (setting s spec align times begin bn kn kfs ns fs known time_col is) columns shown (starts_of spec align times) whole.rise
      (λ k low. let row = rows k low in let found = whole.has row.0 row.1 in (found.0, found.1, found.2 ∙ sym row.2))

  pub unfilled_count : (time_col : ℕ) → times ≡ map (time_of time_col) (rows_in s)
      → length (flat_map (bucket_rows s spec.group.keys kfs columns (map (λ f. get_or kn f 0) fs) begin (lists_of (map (λ f. get_or bn f 0) fs) (map (λ f. get_or kn f 0) fs) (length fs) (length kfs) (length begin))) (range_with_len 0 (length begin))) ≡ length fs
  unfilled_count time_col is =
      let some : 0 < length s.places = omega (arith, known.some, known.count) in
      unfilled_length s spec align time_col begin bn kn kfs ns fs (setting s spec align times begin bn kn kfs ns fs known time_col is) columns shown some

  pub keys_count : (time_col : ℕ) → times ≡ map (time_of time_col) (rows_in s) → length (keys_of spec.group.keys (rows_in s)) ≡ length kfs
  keys_count time_col is =
      ap length (keys_are s spec.group.keys spec.stride align time_col begin bn kn kfs ns fs (setting s spec align times begin bn kn kfs ns fs known time_col is)) ∙ length-map kfs _

  -- with one
  pub filled_all : (fills : List Fill) → fills ≡ each_fill spec.fills spec.group.aggs → begin ≡ starts_of spec align times → (time_col : ℕ) → times ≡ map (time_of time_col) (rows_in s)
      → (fold (with_bucket s spec.group.keys kfs columns (map (λ f. get_or kn f 0) fs) fills begin (deals_of (map (λ f. get_or bn f 0) fs) (length fs) (length begin))) ([], map (λ k. nulls spec.group.aggs) (keys_of spec.group.keys (rows_in s))) (range_with_len 0 (length begin))).0
      ≡ filled_whole spec align time_col (starts_of spec align times) (rows_in s)
  filled_all fills fills_are begin_is time_col is =
      let set = setting s spec align times begin bn kn kfs ns fs known time_col is in
      let keys = keys_of spec.group.keys (rows_in s) in
      filled_is s spec align time_col begin bn kn kfs ns fs set columns shown fills fills_are (map (λ k. nulls spec.group.aggs) keys)
      (length-map keys (λ k. nulls spec.group.aggs) ∙ keys_count time_col is)
      ∙ ap (λ (list : List ℕ). filled_whole spec align time_col list (rows_in s)) begin_is

-- how many rows a fill gives
pub filled_count : (spec : SampleSpec) (align : Align) (time_col : ℕ) (list : List ℕ) (rows : List Row) → length (filled_whole spec align time_col list rows) ≡ length list * length (keys_of spec.group.keys rows)
filled_count spec align time_col list rows =
    let keys = keys_of spec.group.keys rows in
    filled_length spec align time_col keys list (map (λ k. nulls spec.group.aggs) keys) rows (length-map keys (λ k. nulls spec.group.aggs))

-- a number of buckets that fits, and one that doesn't
pub fits : (buckets keys most : ℕ) → 0 < keys → most ≡ MAX_SAMPLED_ROWS / keys → buckets ≤ most → buckets * keys ≤ MAX_SAMPLED_ROWS
fits buckets keys most some is le =
    let more : buckets * keys ≤ most * keys = mul-le-mul le (omega arith) in
    omega (arith, more, ap (λ m. m * keys) is)

pub overflows : (buckets keys most : ℕ) → 0 < keys → most ≡ MAX_SAMPLED_ROWS / keys → most < buckets → MAX_SAMPLED_ROWS < buckets * keys
overflows buckets keys most some is more =
    let less : (most + 1) * keys ≤ buckets * keys = mul-le-mul (omega arith) (omega arith) in
    omega (arith, less, ap (λ m. m * keys) is)
