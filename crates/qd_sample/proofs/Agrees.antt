-- The rows of a bucket and key, by the numbers of their buckets and keys.
use Rattle.std.proofs.Common.{◌≡◌, ℕ, ◌+◌, ◌<◌, ◌≤◌, Bool, true, false, eqb, List, [], length, map, filter, get_or, refl, sym, ap, ap₂, ◌∙◌, arith, inl, inr, ◌⊎◌}
use Rattle.std.specs.Prelude.{◌&&◌}
use Rattle.std.specs.Cmp.{IsEquivalence}
use Rattle.std.proofs.lemmas.Bool.{cases_eq, cases_order, eq-eqb, ne_eqb, eqb-true, true≢false}
use Rattle.std.proofs.lemmas.Cmp.{on_equiv}
use Rattle.std.proofs.lemmas.List.{get_or-map, length-map}
use Rattle.qd_base.specs.Rows.{Row, time_of}
use Rattle.qd_expr.specs.Passing.{row_in}
use Rattle.qd_group.specs.Grouping.{members, same_numbers, same_rows, AreGroups}
use Rattle.qd_group.proofs.Assembly.{heads, key_rows, length_rows}
use Rattle.qd_group.proofs.Distincts.{keys_equiv, members-filter}
use Rattle.qd_group.proofs.Leaders.{first_below, number_below, told}
use Rattle.qd_meaning.specs.Grouped.{key_of, keys_of, rows_of, same_key}
use Rattle.qd_meaning.specs.Sampled.{in_bucket}
use Rattle.qd_rows.specs.Sets.{ResultRows, rows_in}
use Rattle.qd_time.specs.declared.buckets.Align.{Align}
use Rattle.qd_time.specs.declared.buckets.Stride.{Stride}
use Rattle.qd_time.specs.Buckets.{bucket_start, period_of, IsStride}
use Rattle.qd_time.proofs.StartLemmas.{period_is, start_by-greatest, start_by-le}
use Rattle.qd_value.specs.declared.bound.Bound.{Bound}
use Rattle.qd_sample.specs.Starts.{AreNumbers, AreStarts, AreTimes}
use Rattle.qd_sample.proofs.Lists.{filter-filter}
use Rattle.qd_sample.proofs.Pairs.{sole, Empty, Sole}

-- pairs of numbers are told apart by an equivalence
pub numbers_equiv : (a b : List ℕ) → IsEquivalence (same_numbers a b)
numbers_equiv a b = record {
  refl = λ x. ap₂ (λ s t. s && t) (eq-eqb (get_or a x 0) (get_or a x 0) refl) (eq-eqb (get_or b x 0) (get_or b x 0) refl);
  symm = λ x y. ap₂ (λ s t. s && t) (turned (get_or a x 0) (get_or a y 0)) (turned (get_or b x 0) (get_or b y 0));
  congr = λ x y z e. let parts = both (eqb (get_or a x 0) (get_or a y 0)) (eqb (get_or b x 0) (get_or b y 0)) e in ap₂ (λ m n. eqb m (get_or a z 0) && eqb n (get_or b z 0)) (eqb-true _ _ parts.0) (eqb-true _ _ parts.1);
}
  where
    turned : (x y : ℕ) → eqb x y ≡ eqb y x
    turned x y = elim (cases_eq x y) [
      | inl same ↦ (eq-eqb x y same ∙ sym (eq-eqb y x (sym same)))
      | inr other ↦ (ne_eqb x y other ∙ sym (ne_eqb y x (λ e. other (sym e))))
    ]

    both : (s t : Bool) → (s && t) ≡ true → (s ≡ true) × (t ≡ true)
    both true t e = (refl, e)
    both false t e = absurd (true≢false (sym e))

-- the number of a time is that of its bucket's start
pub number_start : (stride : Stride) (align : Align) (times starts numbers : List ℕ) → IsStride stride → AreTimes align times → AreStarts stride align times starts → AreNumbers times starts numbers
    → (i : ℕ) → i < length times → get_or starts (get_or numbers i 0) 0 ≡ bucket_start stride align (get_or times i 0)
number_start stride align times starts numbers strides are all numbered i low =
    let m = get_or numbers i 0 in
    let t = get_or times i 0 in
    let found = all.has i low in
    let p = period_is stride strides in
    let below = numbered.below i low in
    let early = start_by-le (period_of stride) align t p (are.reached i low) in
    let least = start_by-greatest (period_of stride) align t (get_or starts m 0) p (are.reached i low) (all.each m below) (numbered.reached i low) in
    elim (cases_order m found.0) [
      | inl same ↦ ap (λ k. get_or starts k 0) same ∙ found.2
      | inr (inl less) ↦ absurd (later found.0 found.1 less (omega (arith, early, found.2)) (numbered.last i low))
      | inr (inr more) ↦ absurd (omega (arith, all.rise found.0 m more below, found.2, least))
    ]
  where
    later : (k : ℕ) → k < length starts → get_or numbers i 0 < k → get_or starts k 0 ≤ get_or times i 0 → (get_or numbers i 0 + 1 < length starts → get_or times i 0 < get_or starts (get_or numbers i 0 + 1) 0) → ⊥
    later k there less here last =
        let past = last (omega arith) in
        elim (cases_order (get_or numbers i 0 + 1) k) [
          | inl same ↦ omega (arith, past, here, ap (λ j. get_or starts j 0) same)
          | inr (inl before) ↦ omega (arith, past, here, all.rise (get_or numbers i 0 + 1) k before there)
          | inr (inr after) ↦ omega arith
        ]

-- rows in buckets and by keys, as numbers
pub record Setting (s : ResultRows) (keys : List Bound) (stride : Stride) (align : Align) (time_col : ℕ) (starts bn kn kfs ns fs : List ℕ) : Type 0 where
  pub strides : IsStride stride
  pub times : AreTimes align (map (time_of time_col) (rows_in s))
  pub all : AreStarts stride align (map (time_of time_col) (rows_in s)) starts
  pub numbers : AreNumbers (map (time_of time_col) (rows_in s)) starts bn
  pub keyed : AreGroups (same_rows keys s) (length s.places) kn kfs
  pub paired : AreGroups (same_numbers bn kn) (length bn) ns fs

-- the key of a number
abbrev pub key_at : ResultRows → List Bound → List ℕ → ℕ → Row
key_at s keys kfs k = key_of keys (row_in s (get_or kfs k 0))

-- whether a row is of a bucket and key
abbrev pub is_of : List Bound → Stride → Align → ℕ → ℕ → Row → Row → Bool
is_of keys stride align time_col start key row = eqb (bucket_start stride align (time_of time_col row)) start && same_key key (key_of keys row)

pub rows_here : (keys : List Bound) (stride : Stride) (align : Align) (time_col start : ℕ) (key : Row) (rows : List Row) → rows_of keys key (in_bucket stride align time_col start rows) ≡ filter (is_of keys stride align time_col start key) rows
rows_here keys stride align time_col start key rows = filter-filter (λ row. same_key key (key_of keys row)) (λ row. eqb (bucket_start stride align (time_of time_col row)) start) rows

module _ (s : ResultRows) (keys : List Bound) (stride : Stride) (align : Align) (time_col : ℕ) (starts bn kn kfs ns fs : List ℕ) (set : Setting s keys stride align time_col starts bn kn kfs ns fs) where
  abbrev rows : List Row
  rows = rows_in s

  abbrev times : List ℕ
  times = map (time_of time_col) (rows_in s)

  pub sizes : (length (rows_in s) ≡ length s.places) × (length (map (time_of time_col) (rows_in s)) ≡ length s.places) × (length bn ≡ length s.places) × (length kn ≡ length s.places) × (length ns ≡ length s.places)
  sizes =
      let n = length_rows s in
      let t : length (map (time_of time_col) (rows_in s)) ≡ length s.places = length-map (rows_in s) (time_of time_col) ∙ n in
      let b : length bn ≡ length s.places = set.numbers.count ∙ t in
      (n, t, b, set.keyed.count, set.paired.count ∙ b)

  time_at : (i : ℕ) → i < length s.places → get_or (map (time_of time_col) (rows_in s)) i 0 ≡ time_of time_col (get_or (rows_in s) i [])
  time_at i low = get_or-map (time_of time_col) (rows_in s) i [] 0 (omega (arith, sizes.0))

  -- the numbers tell a row of a bucket and key
  agrees : (b k : ℕ) → b < length starts → k < length kfs → (i : ℕ) → i < length s.places → is_of keys stride align time_col (get_or starts b 0) (key_at s keys kfs k) (get_or (rows_in s) i []) ≡ (eqb (get_or bn i 0) b && eqb (get_or kn i 0) k)
  agrees b k b_low k_low i low =
      ap₂ (λ x y. x && y) bucket (sym (told (same_rows keys s) (on_equiv (λ (j : ℕ). key_of keys (row_in s j)) keys_equiv) (length s.places) kn kfs set.keyed i k low k_low))
    where
      here : get_or starts (get_or bn i 0) 0 ≡ bucket_start stride align (time_of time_col (get_or (rows_in s) i []))
      here = number_start stride align times starts bn set.strides set.times set.all set.numbers i (omega (arith, sizes.1)) ∙ ap (bucket_start stride align) (time_at i low)

      bucket : eqb (bucket_start stride align (time_of time_col (get_or (rows_in s) i []))) (get_or starts b 0) ≡ eqb (get_or bn i 0) b
      bucket =
          let there = set.numbers.below i (omega (arith, sizes.1)) in
          elim (cases_order (get_or bn i 0) b) [
            | inl same ↦ (eq-eqb _ _ (sym here ∙ ap (λ m. get_or starts m 0) same) ∙ sym (eq-eqb _ _ same))
            | inr (inl less) ↦ (let rise = set.all.rise (get_or bn i 0) b less b_low in (ne_eqb _ _ (λ e. omega (arith, e, here, rise)) ∙ sym (ne_eqb _ _ (λ e. omega (arith, e)))))
            | inr (inr more) ↦ (let rise = set.all.rise b (get_or bn i 0) more there in (ne_eqb _ _ (λ e. omega (arith, e, here, rise)) ∙ sym (ne_eqb _ _ (λ e. omega (arith, e)))))
          ]

  -- the groups' buckets and keys
  abbrev pub of_bucket : List ℕ
  of_bucket = map (λ f. get_or bn f 0) fs

  abbrev pub of_key : List ℕ
  of_key = map (λ f. get_or kn f 0) fs

  first_low : (g : ℕ) → g < length fs → get_or fs g 0 < length s.places
  first_low g low = omega (arith, first_below (same_numbers bn kn) (length bn) ns fs g 0 set.paired low, sizes.2)

  -- a bucket and key has no row, or one group
  pub pair_is : (b k : ℕ) → b < length starts → k < length kfs
      → ((g : ℕ) × Sole (map (λ f. get_or bn f 0) fs) (map (λ f. get_or kn f 0) fs) ns (length fs) b k g (is_of keys stride align time_col (get_or starts b 0) (key_at s keys kfs k)) [] (rows_in s))
      ⊎ Empty (map (λ f. get_or bn f 0) fs) (map (λ f. get_or kn f 0) fs) (length fs) b k (is_of keys stride align time_col (get_or starts b 0) (key_at s keys kfs k)) (rows_in s)
  pair_is b k b_low k_low =
      sole (length s.places) (length fs) bn kn ns fs (map (λ f. get_or bn f 0) fs) (map (λ f. get_or kn f 0) fs)
      (λ i g i_low g_low. told (same_numbers bn kn) (numbers_equiv bn kn) (length bn) ns fs set.paired i g (omega (arith, sizes.2)) g_low)
      (λ i low. number_below (same_numbers bn kn) (length bn) ns fs i set.paired (omega (arith, sizes.2)))
      first_low
      (λ g low. get_or-map (λ f. get_or bn f 0) fs g 0 0 low)
      (λ g low. get_or-map (λ f. get_or kn f 0) fs g 0 0 low)
      b k (rows_in s) (is_of keys stride align time_col (get_or starts b 0) (key_at s keys kfs k)) [] sizes.0 (agrees b k b_low k_low)

  -- the rows of its group
  pub group_is : (b k g : ℕ) → Sole (map (λ f. get_or bn f 0) fs) (map (λ f. get_or kn f 0) fs) ns (length fs) b k g (is_of keys stride align time_col (get_or starts b 0) (key_at s keys kfs k)) [] (rows_in s)
      → members g ns (rows_in s) ≡ filter (is_of keys stride align time_col (get_or starts b 0) (key_at s keys kfs k)) (rows_in s)
  group_is b k g only = members-filter g ns (rows_in s) (is_of keys stride align time_col (get_or starts b 0) (key_at s keys kfs k)) [] (sizes.4 ∙ sym sizes.0) only.each

  -- the keys of the rows, by their numbers
  pub keys_are : keys_of keys (rows_in s) ≡ map (λ f. get_or (map (key_of keys) (rows_in s)) f []) kfs
  keys_are = sym (heads keys s kn kfs set.keyed)

  pub key_is : (k : ℕ) → k < length kfs → get_or (map (key_of keys) (rows_in s)) (get_or kfs k 0) [] ≡ key_at s keys kfs k
  key_is k low = key_rows keys s (get_or kfs k 0) (omega (arith, first_below (same_rows keys s) (length s.places) kn kfs k 0 set.keyed low, sizes.0))
