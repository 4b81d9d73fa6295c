-- The laws of samples.
use Rattle.std.proofs.Common.{◌≡◌, ℕ, ◌+◌, List, [], ◌∷◌, ◌++◌, length, map, filter, take, ◌≤◌, refl, sym, subst, ap, ap₂, ◌∙◌, arith, All}
use Rattle.std.specs.Prelude.{not, slice_index, Contains}
use Rattle.std.specs.List.{flat_map, zip}
use Rattle.std.proofs.lemmas.Bool.{cond-false}
use Rattle.std.proofs.lemmas.Grind.{get_or_default_zero}
use Rattle.std.proofs.lemmas.List.{length-map, map-append, take_at}
use Rattle.std.proofs.lemmas.List.Elements.{All-cons, All-filter, All-head, All-nil, All-tail}
use Rattle.std.proofs.lemmas.Slice.Zip.{length-zip}
use Rattle.qd_base.specs.declared.cell.Cell.TheVariants as cell
use Rattle.qd_base.specs.declared.limits.TheConstants.{MAX_TIME}
use Rattle.qd_base.specs.Rows.{Row, time_of}
use Rattle.qd_meaning.specs.declared.parts.SampleSpec.{SampleSpec}
use Rattle.qd_meaning.specs.Grouped.{distinct, key_of, keys_of, same_key}
use Rattle.qd_meaning.specs.Joined.{last_or}
use Rattle.qd_meaning.specs.Sampled.{align_of, filled_from, nulls, sample_row, skips, starts, unfilled}
use Rattle.qd_time.specs.declared.buckets.Align.{Align}
use Rattle.qd_time.specs.declared.buckets.Stride.{Stride}
use Rattle.qd_time.specs.Buckets.{bucket_start, IsReached, IsStart, IsStride}
use Rattle.qd_value.specs.declared.bound.Bound.{Bound}
use Rattle.qd_sample.specs.Laws.{EachBucketHasEachKey, StartsAreAll}
use Rattle.qd_sample.proofs.Filled.{cells_of}
use Rattle.qd_sample.proofs.StartLists.{starts_meet, starts_rise, starts_start, starts_within}

abbrev AreLong : ℕ → List Row → Type 0
AreLong n keys = All (λ key. length key ≡ n) keys

distinct_long : (n : ℕ) (keys : List Row) → AreLong n keys → AreLong n (distinct keys)
distinct_long n [] long = All-nil (λ key. length key ≡ n)
distinct_long n (k ∷ ks) long =
    All-cons (λ (key : Row). length key ≡ n) k (filter (λ x. not (same_key k x)) (distinct ks)) (All-head (λ (key : Row). length key ≡ n) k ks long)
    (All-filter (λ x. not (same_key k x)) (λ (key : Row). length key ≡ n) (distinct ks) (distinct_long n ks (All-tail (λ (key : Row). length key ≡ n) k ks long)))

rows_long : (keys : List Bound) (rows : List Row) → AreLong (length keys) (map (key_of keys) rows)
rows_long keys [] = All-nil (λ key. length key ≡ length keys)
rows_long keys (r ∷ rs) = All-cons (λ (key : Row). length key ≡ length keys) (key_of keys r) (map (key_of keys) rs) (length-map keys _) (rows_long keys rs)

-- the front of a bucket's rows
fronts : (n start : ℕ) (keys cells : List Row) → AreLong n keys → length cells ≡ length keys
    → map (take (1 + n)) (map (λ (k : Row × Row). sample_row start k.0 k.1) (zip keys cells)) ≡ map (λ (key : Row). cell.Time start ∷ key) keys
fronts n start [] cells long size = refl
fronts n start (k ∷ ks) [] long size = absurd (omega (arith, size))
fronts n start (k ∷ ks) (c ∷ cs) long size =
    ap₂ (λ (x : Row) (l : List Row). x ∷ l) (take_at (cell.Time start ∷ k) c (1 + n) (omega (arith, All-head (λ (key : Row). length key ≡ n) k ks long))) (fronts n start ks cs (All-tail (λ (key : Row). length key ≡ n) k ks long) (omega (arith, size)))

buckets : (spec : SampleSpec) (align : Align) (time_col n : ℕ) (keys : List Row) (list : List ℕ) (befores rows : List Row) → AreLong n keys → length befores ≡ length keys
    → map (take (1 + n)) (filled_from spec align time_col keys list befores rows) ≡ flat_map (λ start. map (λ (key : Row). cell.Time start ∷ key) keys) list
buckets spec align time_col n keys [] befores rows long size = refl
buckets spec align time_col n keys (start ∷ more) befores rows long size =
    let now = cells_of spec align time_col keys befores rows start in
    let now_size : length (cells_of spec align time_col keys befores rows start) ≡ length keys = length-map (zip keys befores) _ ∙ omega (arith, length-zip keys befores, size) in
    map-append (take (1 + n)) (map (λ (k : Row × Row). sample_row start k.0 k.1) (zip keys now)) (filled_from spec align time_col keys more now rows)
    ∙ ap₂ (λ (a b : List Row). a ++ b) (fronts n start keys now long now_size) (buckets spec align time_col n keys more now rows long now_size)

pub each-bucket-has-each-key : EachBucketHasEachKey
each-bucket-has-each-key spec time_col r rs fills =
    let rows : List Row = r ∷ rs in
    let align = align_of spec.offset (time_of time_col r) in
    let list = starts spec.stride align (time_of time_col r) (time_of time_col (last_or r rs)) in
    let keys = keys_of spec.group.keys rows in
    let befores = map (λ k. nulls spec.group.aggs) keys in
    ap (map (take (1 + length spec.group.keys))) (cond-false (skips spec.fills) (unfilled spec align time_col keys list rows) (filled_from spec align time_col keys list befores rows) fills)
    ∙ buckets spec align time_col (length spec.group.keys) keys list befores rows (distinct_long (length spec.group.keys) (map (key_of spec.group.keys) rows) (rows_long spec.group.keys rows)) (length-map keys (λ k. nulls spec.group.aggs))

-- ---- the starts of buckets

module _ (stride : Stride) (align : Align) (first last : ℕ) (strides : IsStride stride) (reached : IsReached align first) (order : first ≤ last) (high : last ≤ MAX_TIME) where
  is_start : (t : ℕ) → Contains (starts stride align first last) t → (bucket_start stride align first ≤ t) × (t ≤ last) × IsStart stride align t
  is_start t has =
      let all = starts stride align first last in
      let same : slice_index all has.0 ≡ t = sym (get_or_default_zero all has.0 t has.1) ∙ has.2 in
      let within = starts_within stride align first last strides reached order high has.0 has.1 in
      (omega (arith, within.0, same), omega (arith, within.1, same), subst (IsStart stride align) same (starts_start stride align first last strides reached order high has.0 has.1))

  has_start : (t : ℕ) → (bucket_start stride align first ≤ t) × (t ≤ last) × IsStart stride align t → Contains (starts stride align first last) t
  has_start t h =
      let found = starts_meet stride align first last strides reached order high t h.0 h.1 h.2 in
      (found.0, found.1, get_or_default_zero (starts stride align first last) found.0 t found.1 ∙ found.2)

pub starts-are-all : StartsAreAll
starts-are-all = record {
  rise = λ stride align first last strides reached order high. starts_rise stride align first last strides reached order high;
  exact = λ stride align first last strides reached order high t.
      (is_start stride align first last strides reached order high t, has_start stride align first last strides reached order high t);
}
