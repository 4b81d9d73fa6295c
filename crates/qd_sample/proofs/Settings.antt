-- What the parts of a sample owe one another.
use Rattle.std.proofs.Common.{◌≡◌, ℕ, ◌+◌, ◌<◌, ◌≤◌, Bool, true, cond, eqb, List, [], ◌∷◌, ◌++◌, length, map, filter, get_or, refl, sym, ap, ◌∙◌, subst, arith, inl, inr, All}
use Rattle.std.specs.Prelude.{unwrap_or}
use Rattle.std.specs.List.{flat_map, range_with_len}
use Rattle.std.proofs.lemmas.Bool.{cases_eq}
use Rattle.std.proofs.lemmas.List.{get_or-map, get_or_default, length-map}
use Rattle.std.proofs.lemmas.List.Elements.{All-append, All-filter, All-nil}
use Rattle.std.proofs.lemmas.List.FromFn.{get_or-map-range_with_len, get_or-range_with_len, length-map-range_with_len, length-range_with_len}
use Rattle.qd_base.specs.declared.cell.Cell.{Cell}
use Rattle.qd_base.specs.Rows.{Row}
use Rattle.qd_group.specs.Grouping.{answers_of, same_rows, spot, AreGroups}
use Rattle.qd_group.proofs.Assembly.{answers_fit}
use Rattle.qd_group.proofs.Leaders.{first_below, groups_more, groups_turned, number_below}
use Rattle.qd_meaning.specs.declared.parts.Agg.{Agg}
use Rattle.qd_rows.specs.Sets.{ResultRows}
use Rattle.qd_time.specs.declared.buckets.Align.{Align}
use Rattle.qd_time.specs.declared.buckets.Stride.{Stride}
use Rattle.qd_time.specs.Buckets.{period_of, IsStride}
use Rattle.qd_time.proofs.StartLemmas.{period_is, start_by-le}
use Rattle.qd_value.specs.declared.bound.Bound.{Bound}
use Rattle.qd_sample.specs.Cells.{by_key}
use Rattle.qd_sample.specs.Starts.{AreStarts, AreTimes}

-- ---- one group

pub one_more_row : (n : ℕ) (ns fs more_ns more_fs : List ℕ) → AreGroups (λ i j. true) n ns fs → more_ns ≡ ns ++ 0 ∷ [] → more_fs ≡ cond (eqb 0 (length fs)) (fs ++ length ns ∷ []) fs → AreGroups (λ i j. true) (n + 1) more_ns more_fs
one_more_row n ns fs more_ns more_fs are ns_is fs_is = groups_more (λ i j. true) n 0 ns fs more_ns more_fs refl are (first fs) ns_is fs_is
  where
    first : (list : List ℕ) → 0 ≡ unwrap_or (spot (λ (f : ℕ). true) list) (length list)
    first [] = refl
    first (x ∷ xs) = refl

-- without keys all rows are the same
pub no_keys : (keys : List Bound) (s : ResultRows) (n : ℕ) (ns fs : List ℕ) → length keys ≡ 0 → n ≡ length s.places → AreGroups (λ i j. true) n ns fs → AreGroups (same_rows keys s) (length s.places) ns fs
no_keys keys s n ns fs none size are = groups_turned (λ i j. true) (same_rows keys s) n (length s.places) ns fs size (λ i j i_low j_low. by i j keys none) are
  where
    by : (i j : ℕ) (list : List Bound) → length list ≡ 0 → true ≡ same_rows list s i j
    by i j [] e = refl
    by i j (k ∷ ks) e = absurd (omega (arith, e))

-- ---- numbers below their bounds

pub firsts_below : (same : ℕ → ℕ → Bool) (n : ℕ) (ns fs : List ℕ) → AreGroups same n ns fs → All (λ f. f < n) fs
firsts_below same n ns fs are = λ k d low. first_below same n ns fs k d are low

pub numbers_below : (same : ℕ → ℕ → Bool) (n : ℕ) (ns fs : List ℕ) → AreGroups same n ns fs → All (λ m. m < length fs) ns
numbers_below same n ns fs are = λ k d low.
    let there : k < n = omega (arith, low, are.count) in
    subst (λ (m : ℕ). m < length fs) (get_or_default ns k 0 d low) (number_below same n ns fs k are there)

-- numbers at places that are there
pub taken_below : (xs places : List ℕ) (bound : ℕ) → All (λ x. x < bound) xs → All (λ i. i < length xs) places → All (λ x. x < bound) (map (λ i. get_or xs i 0) places)
taken_below xs places bound low there = λ k d k_low.
    let k_there : k < length places = omega (arith, k_low, length-map places (λ i. get_or xs i 0)) in
    subst (λ (x : ℕ). x < bound) (sym (get_or-map (λ i. get_or xs i 0) places k 0 d k_there)) (low (get_or places k 0) 0 (there k 0 k_there))

range_low : (n : ℕ) → All (λ g. g < n) (range_with_len 0 n)
range_low n = λ k d low. let there : k < n = omega (arith, low, length-range_with_len 0 n) in omega (arith, get_or-range_with_len 0 n k d there)

All-flat_map : {X Y : Type 0} (P : Y → Type 0) (f : X → List Y) → ((x : X) → All P (f x)) → (xs : List X) → All P (flat_map f xs)
All-flat_map P f each [] = All-nil P
All-flat_map P f each (x ∷ xs) = All-append P (f x) (flat_map f xs) (each x) (All-flat_map P f each xs)

by_key_low : (keys : List ℕ) (groups count : ℕ) → All (λ g. g < groups) (by_key keys groups count)
by_key_low keys groups count =
    All-flat_map (λ g. g < groups) (λ k. filter (λ g. eqb (get_or keys g 0) k) (range_with_len 0 groups)) (λ k. All-filter (λ g. eqb (get_or keys g 0) k) (λ g. g < groups) (range_with_len 0 groups) (range_low groups)) (range_with_len 0 count)

-- lists that are dealt hold what was dealt
dealt_low : {C : Type 0} (items : C → List ℕ) (lists : List C) (classes all : List ℕ) (count bound : ℕ) → All (λ g. g < bound) all → map items lists ≡ map (λ b. filter (λ g. eqb (get_or classes g 0) b) all) (range_with_len 0 count)
    → All (λ l. All (λ g. g < bound) (items l)) lists
dealt_low items lists classes all count bound low are = λ k d k_low.
    let size : length lists ≡ count = sym (length-map lists items) ∙ ap length are ∙ length-map-range_with_len (λ b. filter (λ g. eqb (get_or classes g 0) b) all) 0 count in
    let read = sym (get_or-map items lists k d (items d) k_low) ∙ ap (λ (l : List (List ℕ)). get_or l k (items d)) are ∙ get_or-map-range_with_len (λ b. filter (λ g. eqb (get_or classes g 0) b) all) 0 count k k (items d) (omega (arith, k_low, size)) (omega arith) in
    subst (λ (l : List ℕ). All (λ g. g < bound) l) (sym read) (All-filter (λ g. eqb (get_or classes g 0) k) (λ g. g < bound) all low)

pub dealt_range : {C : Type 0} (items : C → List ℕ) (lists : List C) (classes : List ℕ) (groups count : ℕ) → map items lists ≡ map (λ b. filter (λ g. eqb (get_or classes g 0) b) (range_with_len 0 groups)) (range_with_len 0 count)
    → All (λ l. All (λ g. g < groups) (items l)) lists
dealt_range items lists classes groups count are = dealt_low items lists classes (range_with_len 0 groups) count groups (range_low groups) are

pub dealt_by_key : {C : Type 0} (items : C → List ℕ) (lists : List C) (classes keys : List ℕ) (groups known count : ℕ) → map items lists ≡ map (λ b. filter (λ g. eqb (get_or classes g 0) b) (by_key keys groups known)) (range_with_len 0 count)
    → All (λ l. All (λ g. g < groups) (items l)) lists
dealt_by_key items lists classes keys groups known count are = dealt_low items lists classes (by_key keys groups known) count groups (by_key_low keys groups known) are

pub dealt_size : {C : Type 0} (items : C → List ℕ) (lists : List C) (list : ℕ → List ℕ) (count : ℕ) → map items lists ≡ map list (range_with_len 0 count) → length lists ≡ count
dealt_size items lists list count are = sym (length-map lists items) ∙ ap length are ∙ length-map-range_with_len list 0 count

pub by_key_there : (keys classes : List ℕ) (groups count : ℕ) → length classes ≡ groups → All (λ g. g < length classes) (by_key keys groups count)
by_key_there keys classes groups count size = subst (λ (n : ℕ). All (λ g. g < n) (by_key keys groups count)) (sym size) (by_key_low keys groups count)

pub range_there : (classes : List ℕ) (groups : ℕ) → length classes ≡ groups → All (λ g. g < length classes) (range_with_len 0 groups)
range_there classes groups size = subst (λ (n : ℕ). All (λ g. g < n) (range_with_len 0 groups)) (sym size) (range_low groups)

-- columns have a value for each group
pub columns_sized : {C : Type 0} (items : C → List Cell) (columns : List C) (ns : List ℕ) (groups : ℕ) (rows : List Row) (aggs : List Agg) → map items columns ≡ map (answers_of ns groups rows) aggs → (k : ℕ) (d : C) → k < length columns → length (items (get_or columns k d)) ≡ groups
columns_sized items columns ns groups rows aggs are k d low =
    ap length (sym (get_or-map items columns k d (items d) low)) ∙ answers_fit ns groups rows aggs (map items columns) are k (items d) (omega (arith, low, length-map columns items))

-- ---- starts

-- the first start is reached by every time
pub first_start : (stride : Stride) (align : Align) (times starts : List ℕ) → IsStride stride → AreTimes align times → AreStarts stride align times starts → (i : ℕ) → i < length times → get_or starts 0 0 ≤ get_or times i 0
first_start stride align times starts strides are all i low =
    let found = all.has i low in
    let early = start_by-le (period_of stride) align (get_or times i 0) (period_is stride strides) (are.reached i low) in
    elim (cases_eq found.0 0) [
      | inl same ↦ omega (arith, early, found.2, ap (λ k. get_or starts k 0) same)
      | inr other ↦ omega (arith, early, found.2, all.rise 0 found.0 (omega (arith, other)) found.1)
    ]

pub some_start : (stride : Stride) (align : Align) (times starts : List ℕ) → AreStarts stride align times starts → 0 < length times → 0 < length starts
some_start stride align times starts all some = let found = all.has 0 some in omega (arith, found.1)
