-- A sample without rows for what has none.
use Rattle.std.proofs.Common.{◌≡◌, ℕ, ◌<◌, Bool, true, false, eqb, List, [], ◌∷◌, length, map, filter, get_or, refl, sym, ap, ap₂, ◌∙◌, arith, inl, inr}
use Rattle.std.specs.Prelude.{◌&&◌}
use Rattle.std.specs.List.{flat_map, range_with_len}
use Rattle.std.proofs.lemmas.Bool.{cases_lt, ne_eqb}
use Rattle.std.proofs.lemmas.List.{get_or-map, get_or_past, length-append, length-map}
use Rattle.std.proofs.lemmas.List.Folds.{flat_map-map}
use Rattle.std.proofs.lemmas.List.FromFn.{fill_by_all, get_or-map-range_with_len, length-range_with_len}
use Rattle.qd_base.specs.declared.cell.Cell.{Cell}
use Rattle.qd_base.specs.Rows.{Row, time_of}
use Rattle.qd_group.specs.Grouping.{answers_of, members, same_numbers, same_rows}
use Rattle.qd_group.proofs.Assembly.{answers_at as group_answers}
use Rattle.qd_group.proofs.Leaders.{first_below, number_below}
use Rattle.qd_meaning.specs.declared.parts.Agg.{Agg}
use Rattle.qd_meaning.specs.declared.parts.SampleSpec.{SampleSpec}
use Rattle.qd_meaning.specs.Grouped.{aggregates, key_of, keys_of, rows_of}
use Rattle.qd_meaning.specs.Sampled.{in_bucket, row_of, sample_row, unfilled}
use Rattle.qd_rows.specs.Sets.{ResultRows, rows_in}
use Rattle.qd_time.specs.declared.buckets.Align.{Align}
use Rattle.qd_time.specs.Buckets.{bucket_start}
use Rattle.qd_sample.specs.Cells.{answers_at, bucket_rows, by_key, group_row}
use Rattle.qd_sample.proofs.Agrees.{group_is, is_of, key_at, key_is, keys_are, pair_is, rows_here, sizes, Setting}
use Rattle.qd_sample.proofs.Lists.{filter-filter, filter-flat_map, filter_alike, filter_none, flat_none, flat_range, map-flat_map}
use Rattle.qd_sample.proofs.Pairs.{picked}
use Rattle.qd_sample.proofs.Sublists.{dealt_length, flat_part, Rises}

same_length : {X Y : Type 0} (f : ℕ → X → Y) (list : ℕ → List X) (bs : List ℕ) → length (flat_map (λ b. map (f b) (list b)) bs) ≡ length (flat_map list bs)
same_length f list [] = refl
same_length f list (b ∷ bs) = omega (arith, length-append (map (f b) (list b)) (flat_map (λ x. map (f x) (list x)) bs), length-append (list b) (flat_map list bs), length-map (list b) (f b), same_length f list bs)

row_some : (aggs : List Agg) (start : ℕ) (key : Row) (rows : List Row) → 0 < length rows → row_of aggs start key rows ≡ sample_row start key (aggregates aggs rows) ∷ []
row_some aggs start key [] some = absurd (omega arith)
row_some aggs start key (r ∷ rs) some = refl

pub indexed : {X : Type 0} (xs : List X) (d : X) → xs ≡ map (λ k. get_or xs k d) (range_with_len 0 (length xs))
indexed xs d = fill_by_all (λ k. get_or xs k d) xs (length xs) d refl (λ k low. refl)

and_turned : (a b : Bool) → (a && b) ≡ (b && a)
and_turned true true = refl
and_turned true false = refl
and_turned false true = refl
and_turned false false = refl

-- the groups of each bucket, in order of their keys
abbrev pub lists_of : List ℕ → List ℕ → ℕ → ℕ → ℕ → List (List ℕ)
lists_of of_bucket of_key groups keys buckets = map (λ b. filter (λ g. eqb (get_or of_bucket g 0) b) (by_key of_key groups keys)) (range_with_len 0 buckets)

-- what a bucket gives
abbrev pub bucket_gives : SampleSpec → Align → ℕ → List Row → List Row → ℕ → List Row
bucket_gives spec align time_col keys rows start = flat_map (λ key. row_of spec.group.aggs start key (rows_of spec.group.keys key (in_bucket spec.stride align time_col start rows))) keys

module _ (s : ResultRows) (spec : SampleSpec) (align : Align) (time_col : ℕ) (starts bn kn kfs ns fs : List ℕ) (set : Setting s spec.group.keys spec.stride align time_col starts bn kn kfs ns fs)
    (columns : List (List Cell)) (shown : columns ≡ map (answers_of ns (length fs) (rows_in s)) spec.group.aggs) where
  abbrev of_bucket : List ℕ
  of_bucket = map (λ f. get_or bn f 0) fs

  abbrev of_key : List ℕ
  of_key = map (λ f. get_or kn f 0) fs

  abbrev lists : List (List ℕ)
  lists = lists_of (map (λ f. get_or bn f 0) fs) (map (λ f. get_or kn f 0) fs) (length fs) (length kfs) (length starts)

  abbrev list : ℕ → List ℕ
  list b = filter (λ g. eqb (get_or (map (λ f. get_or bn f 0) fs) g 0) b) (by_key (map (λ f. get_or kn f 0) fs) (length fs) (length kfs))

  abbrev row_is : ℕ → ℕ → Row
  row_is b = group_row s spec.group.keys kfs columns (map (λ f. get_or kn f 0) fs) (get_or starts b 0)

  abbrev G : ℕ → Row → List Row
  G b key = row_of spec.group.aggs (get_or starts b 0) key (rows_of spec.group.keys key (in_bucket spec.stride align time_col (get_or starts b 0) (rows_in s)))

  abbrev gives : ℕ → List Row
  gives = bucket_gives spec align time_col (keys_of spec.group.keys (rows_in s)) (rows_in s)

  -- a group's answers are the aggregates of its rows
  pub answers_are : (g : ℕ) → g < length fs → answers_at columns g ≡ aggregates spec.group.aggs (members g ns (rows_in s))
  answers_are g low = group_answers ns (length fs) (rows_in s) spec.group.aggs columns g low shown

  -- what a bucket and key give
  pair_gives : (b k : ℕ) → b < length starts → k < length kfs
      → row_of spec.group.aggs (get_or starts b 0) (key_at s spec.group.keys kfs k) (rows_of spec.group.keys (key_at s spec.group.keys kfs k) (in_bucket spec.stride align time_col (get_or starts b 0) (rows_in s)))
      ≡ map (group_row s spec.group.keys kfs columns (map (λ f. get_or kn f 0) fs) (get_or starts b 0)) (picked (map (λ f. get_or bn f 0) fs) (map (λ f. get_or kn f 0) fs) (length fs) b k)
  pair_gives b k b_low k_low =
      let start = get_or starts b 0 in
      let key = key_at s spec.group.keys kfs k in
      elim (pair_is s spec.group.keys spec.stride align time_col starts bn kn kfs ns fs set b k b_low k_low) [
        | inr empty ↦
            (ap (row_of spec.group.aggs start key) (rows_here spec.group.keys spec.stride align time_col start key (rows_in s) ∙ empty.empty)
            ∙ sym (ap (map (group_row s spec.group.keys kfs columns (map (λ f. get_or kn f 0) fs) start)) empty.none))
        | inl (g, only) ↦
            (let there = group_is s spec.group.keys spec.stride align time_col starts bn kn kfs ns fs set b k g only in
            ap (row_of spec.group.aggs start key) (rows_here spec.group.keys spec.stride align time_col start key (rows_in s))
            ∙ row_some spec.group.aggs start key (filter (is_of spec.group.keys spec.stride align time_col start key) (rows_in s)) only.some
            ∙ ap (λ (r : Row). r ∷ [])
            (ap₂ (sample_row start) (ap (key_at s spec.group.keys kfs) (sym only.key)) (ap (aggregates spec.group.aggs) (sym there) ∙ sym (answers_are g only.low)))
            ∙ sym (ap (map (group_row s spec.group.keys kfs columns (map (λ f. get_or kn f 0) fs) start)) only.only))
      ]

  -- what a bucket gives is what its groups give
  bucket_is : (b : ℕ) → b < length starts
      → bucket_gives spec align time_col (keys_of spec.group.keys (rows_in s)) (rows_in s) (get_or starts b 0)
      ≡ bucket_rows s spec.group.keys kfs columns (map (λ f. get_or kn f 0) fs) starts (lists_of (map (λ f. get_or bn f 0) fs) (map (λ f. get_or kn f 0) fs) (length fs) (length kfs) (length starts)) b
  bucket_is b low =
      ap (flat_map (G b)) (keys_are s spec.group.keys spec.stride align time_col starts bn kn kfs ns fs set)
      ∙ flat_map-map (G b) (λ f. get_or (map (key_of spec.group.keys) (rows_in s)) f []) kfs
      ∙ ap (flat_map (λ f. (G b) (get_or (map (key_of spec.group.keys) (rows_in s)) f []))) (indexed kfs 0)
      ∙ flat_map-map (λ f. (G b) (get_or (map (key_of spec.group.keys) (rows_in s)) f [])) (λ k. get_or kfs k 0) (range_with_len 0 (length kfs))
      ∙ flat_range (λ k. (G b) (get_or (map (key_of spec.group.keys) (rows_in s)) (get_or kfs k 0) [])) (λ k. map (row_is b) (filter (λ g. eqb (get_or of_bucket g 0) b) (filter (λ g. eqb (get_or of_key g 0) k) (range_with_len 0 (length fs))))) 0 (length kfs)
      (λ k more less.
      ap (G b) (key_is s spec.group.keys spec.stride align time_col starts bn kn kfs ns fs set k (omega arith))
      ∙ pair_gives b k low (omega arith)
      ∙ sym (ap (map (row_is b)) (filter-filter (λ g. eqb (get_or of_bucket g 0) b) (λ g. eqb (get_or of_key g 0) k) (range_with_len 0 (length fs)) ∙ filter_alike _ _ (λ g. and_turned (eqb (get_or of_key g 0) k) (eqb (get_or of_bucket g 0) b)) (range_with_len 0 (length fs)))))
      ∙ sym (map-flat_map (row_is b) (λ k. filter (λ g. eqb (get_or of_bucket g 0) b) (filter (λ g. eqb (get_or of_key g 0) k) (range_with_len 0 (length fs)))) (range_with_len 0 (length kfs)))
      ∙ sym (ap (map (row_is b)) (filter-flat_map (λ g. eqb (get_or of_bucket g 0) b) (λ k. filter (λ g. eqb (get_or of_key g 0) k) (range_with_len 0 (length fs))) (range_with_len 0 (length kfs))))
      ∙ sym (ap (map (row_is b)) (get_or-map-range_with_len (λ x. filter (λ g. eqb (get_or of_bucket g 0) x) (by_key of_key (length fs) (length kfs))) 0 (length starts) b b [] low (omega arith)))

  -- a bucket without rows gives none
  bucket_none : (start : ℕ) → ((i : ℕ) → i < length (rows_in s) → bucket_start spec.stride align (time_of time_col (get_or (rows_in s) i [])) ≡ start → ⊥) → bucket_gives spec align time_col (keys_of spec.group.keys (rows_in s)) (rows_in s) start ≡ []
  bucket_none start none =
      flat_none (λ key. row_of spec.group.aggs start key (rows_of spec.group.keys key (in_bucket spec.stride align time_col start (rows_in s))))
      (λ key. ap (λ (here : List Row). row_of spec.group.aggs start key (rows_of spec.group.keys key here)) (filter_none (λ row. eqb (bucket_start spec.stride align (time_of time_col row)) start) (rows_in s) [] (λ i low. ne_eqb _ start (none i low))))
      (keys_of spec.group.keys (rows_in s))

  -- the rows of the groups are the sample over all buckets
  pub unfilled_is : (whole : List ℕ) → Rises whole → ((k : ℕ) → k < length starts → (j : ℕ) × (j < length whole) × (get_or whole j 0 ≡ get_or starts k 0))
      → flat_map (bucket_rows s spec.group.keys kfs columns (map (λ f. get_or kn f 0) fs) starts (lists_of (map (λ f. get_or bn f 0) fs) (map (λ f. get_or kn f 0) fs) (length fs) (length kfs) (length starts))) (range_with_len 0 (length starts))
      ≡ unfilled spec align time_col (keys_of spec.group.keys (rows_in s)) whole (rows_in s)
  unfilled_is whole rise there =
      flat_range (bucket_rows s spec.group.keys kfs columns (map (λ f. get_or kn f 0) fs) starts (lists_of (map (λ f. get_or bn f 0) fs) (map (λ f. get_or kn f 0) fs) (length fs) (length kfs) (length starts))) (λ b. gives (get_or starts b 0)) 0 (length starts) (λ b more less. sym (bucket_is b (omega arith)))
      ∙ sym (flat_map-map gives (λ b. get_or starts b 0) (range_with_len 0 (length starts)))
      ∙ sym (ap (flat_map gives) (indexed starts 0))
      ∙ sym (flat_part gives whole starts rise set.all.rise there (λ j low lacks. bucket_none (get_or whole j 0) (λ i i_low e. missed j low lacks i i_low e)))
    where
      missed : (j : ℕ) → j < length whole → ((k : ℕ) → k < length starts → get_or starts k 0 ≡ get_or whole j 0 → ⊥) → (i : ℕ) → i < length (rows_in s) → bucket_start spec.stride align (time_of time_col (get_or (rows_in s) i [])) ≡ get_or whole j 0 → ⊥
      missed j low lacks i i_low e =
          let found = set.all.has i (omega (arith, i_low, length-map (rows_in s) (time_of time_col))) in
          lacks found.0 found.1 (found.2 ∙ ap (bucket_start spec.stride align) (get_or-map (time_of time_col) (rows_in s) i [] 0 i_low) ∙ e)

  -- there is one for each group
  pub unfilled_length : 0 < length s.places
      → length (flat_map (bucket_rows s spec.group.keys kfs columns (map (λ f. get_or kn f 0) fs) starts (lists_of (map (λ f. get_or bn f 0) fs) (map (λ f. get_or kn f 0) fs) (length fs) (length kfs) (length starts))) (range_with_len 0 (length starts))) ≡ length fs
  unfilled_length some =
      ap length (flat_range (bucket_rows s spec.group.keys kfs columns of_key starts lists) (λ b. map (row_is b) (list b)) 0 (length starts) (λ b more less. ap (map (row_is b)) (get_or-map-range_with_len list 0 (length starts) b b [] (omega arith) (omega arith))))
      ∙ same_length row_is list (range_with_len 0 (length starts))
      ∙ dealt_length of_bucket (by_key of_key (length fs) (length kfs)) (length starts) (λ k d low. bucket_low (get_or (by_key of_key (length fs) (length kfs)) k d))
      ∙ dealt_length of_key (range_with_len 0 (length fs)) (length kfs) (λ k d low. key_low (get_or (range_with_len 0 (length fs)) k d))
      ∙ length-range_with_len 0 (length fs)
    where
      size : (length (map (time_of time_col) (rows_in s)) ≡ length s.places) × (length bn ≡ length s.places)
      size = let all = sizes s spec.group.keys spec.stride align time_col starts bn kn kfs ns fs set in (all.1, all.2)

      bucket_low : (g : ℕ) → get_or of_bucket g 0 < length starts
      bucket_low g = elim (cases_lt g (length fs)) [
        | inl low ↦
            (let first = first_below (same_numbers bn kn) (length bn) ns fs g 0 set.paired low in
            omega (arith, get_or-map (λ f. get_or bn f 0) fs g 0 0 low, set.numbers.below (get_or fs g 0) (omega (arith, first, size.0, size.1))))
        | inr past ↦ omega (arith, get_or_past of_bucket g 0 (omega (arith, length-map fs (λ f. get_or bn f 0))), set.numbers.below 0 (omega (arith, some, size.0)))
      ]

      key_low : (g : ℕ) → get_or of_key g 0 < length kfs
      key_low g = elim (cases_lt g (length fs)) [
        | inl low ↦
            (let first = first_below (same_numbers bn kn) (length bn) ns fs g 0 set.paired low in
            omega (arith, get_or-map (λ f. get_or kn f 0) fs g 0 0 low, number_below (same_rows spec.group.keys s) (length s.places) kn kfs (get_or fs g 0) set.keyed (omega (arith, first, size.1))))
        | inr past ↦ omega (arith, get_or_past of_key g 0 (omega (arith, length-map fs (λ f. get_or kn f 0))), number_below (same_rows spec.group.keys s) (length s.places) kn kfs 0 set.keyed some)
      ]
