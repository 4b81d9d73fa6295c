-- The rows of groups, put together.
use Rattle.std.proofs.Common.{◌≡◌, ℕ, zero, suc, ◌+◌, ◌<◌, Bool, true, false, List, [], ◌∷◌, ◌++◌, length, map, take, get_or, refl, sym, ap, ap₂, ◌∙◌, arith, All, slice_get}
use Rattle.std.specs.Prelude.{◌&&◌, Some}
use Rattle.std.specs.List.{range_with_len}
use Rattle.std.specs.Cmp.{IsEquivalence, unsigned_tied}
use Rattle.std.specs.Cmp.Lexicographic.{texts_ties}
use Rattle.std.specs.Ordering.{nat_cmp, bool_cmp, is_eq, ordering_then}
use Rattle.std.specs.declared.cmp.Ordering.{Ordering}
use Rattle.std.specs.declared.cmp.Ordering.TheVariants.{Less, Equal, Greater}
use Rattle.std.proofs.lemmas.Cmp.{on_equiv}
use Rattle.std.proofs.lemmas.List.{length-map, get_or-map, map_push, map_more, take_more, take_all}
use Rattle.std.proofs.lemmas.List.FromFn.{length-map-range_with_len, get_or-map-range_with_len, fill_by_all, map-range_with_len_more}
use Rattle.qd_base.specs.declared.cell.Cell.{Cell}
use Rattle.qd_base.specs.declared.cell.Cell.TheVariants as cell
use Rattle.qd_base.specs.Rows.{Row, cell_eq}
use Rattle.qd_expr.specs.Passing.{row_in}
use Rattle.qd_expr.proofs.CellLemmas.{row_found}
use Rattle.qd_expr.proofs.ListLemmas.{map-map}
use Rattle.qd_rows.specs.Sets.{Joined, ResultRows, rows_in, row_of_place}
use Rattle.qd_value.specs.declared.bound.Bound.{Bound}
use Rattle.qd_value.specs.declared.scalars.Scalar.{Scalar}
use Rattle.qd_value.specs.Scalars.{cell_of}
use Rattle.qd_value.specs.Value.{value}
use Rattle.qd_meaning.specs.declared.parts.Agg.{Agg}
use Rattle.qd_meaning.specs.declared.parts.GroupSpec.{GroupSpec}
use Rattle.qd_meaning.specs.Grouped.{aggregate, aggregates, distinct, grouped, groups_of, key_of, rows_of, same_key}
use Rattle.qd_group.specs.declared.keys.Key.{Key}
use Rattle.qd_group.specs.declared.keys.Key.TheVariants as key
use Rattle.qd_group.specs.Keys.{lent}
pub use Rattle.qd_group.specs.Numbering.{key_cmp}
use Rattle.qd_group.specs.Grouping.{answers_of, members, same_items, same_numbers, same_rows, same_values, AreGroups}
use Rattle.qd_group.proofs.Leaders.{first_below, groups_turned, tells, told}
use Rattle.qd_group.proofs.Distincts.{cells_equiv, keys_equiv, leaders_distinct, members-filter}

-- ---- keys

truths_tied : (x y : Bool) → is_eq (bool_cmp x y) ≡ cell_eq (cell.Bool x) (cell.Bool y)
truths_tied true true = refl
truths_tied true false = refl
truths_tied false true = refl
truths_tied false false = refl

-- keys are level exactly where their cells are equal
pub keys_tied : (a b : Key) → is_eq (key_cmp a b) ≡ cell_eq (lent a) (lent b)
keys_tied key.Null key.Null = refl
keys_tied (key.Long x) (key.Long y) = refl
keys_tied (key.Truth x) (key.Truth y) = truths_tied x y
keys_tied (key.Text x) (key.Text y) = sym (texts_ties x.now y.now)
keys_tied (key.Time x) (key.Time y) = unsigned_tied x y
keys_tied _ _ = refl

pub length_rows : (s : ResultRows) → length (rows_in s) ≡ length s.places
length_rows s = length-map s.places (row_of_place s)

-- rows grouped by keys are grouped by the keys' cells
pub values_grouped : (e : Bound) (s : ResultRows) (keys given_keys : List Key) (ns fs : List ℕ) → given_keys ≡ keys → map lent keys ≡ map (value e) (rows_in s)
    → ((d : Key) → AreGroups (same_items key_cmp given_keys d) (length given_keys) ns fs) → AreGroups (same_values e s) (length s.places) ns fs
values_grouped e s keys given_keys ns fs given shown are =
    groups_turned (same_items key_cmp given_keys key.Null) (same_values e s) (length given_keys) (length s.places) ns fs (ap length given ∙ size) agree (are key.Null)
  where
    size : length keys ≡ length s.places
    size = sym (length-map keys lent) ∙ ap length shown ∙ length-map (rows_in s) (value e) ∙ length_rows s

    at : (i : ℕ) → i < length keys → lent (get_or given_keys i key.Null) ≡ value e (row_in s i)
    at i low =
        ap (λ (l : List Key). lent (get_or l i key.Null)) given
        ∙ sym (get_or-map lent keys i key.Null cell.Null low)
        ∙ ap (λ (l : List Cell). get_or l i cell.Null) shown
        ∙ get_or-map (value e) (rows_in s) i [] cell.Null (omega (arith, size, length_rows s))

    agree : (i j : ℕ) → i < length given_keys → j < length given_keys → same_items key_cmp given_keys key.Null i j ≡ same_values e s i j
    agree i j i_low j_low = keys_tied (get_or given_keys i key.Null) (get_or given_keys j key.Null) ∙ ap₂ cell_eq (at i (omega (arith, ap length given))) (at j (omega (arith, ap length given)))

-- ---- pairs of numbers

abbrev pub pair_cmp : ℕ × ℕ → ℕ × ℕ → Ordering
pair_cmp a b = ordering_then (nat_cmp a.0 b.0) (nat_cmp a.1 b.1)

then-eq : (o p : Ordering) → is_eq (ordering_then o p) ≡ (is_eq o && is_eq p)
then-eq Less p = refl
then-eq Equal p = refl
then-eq Greater p = refl

pub pairs_grouped : (a b : List ℕ) (pairs : List (ℕ × ℕ)) (ns fs : List ℕ) → pairs ≡ map (λ i. (get_or a i 0, get_or b i 0)) (range_with_len 0 (length a))
    → ((d : ℕ × ℕ) → AreGroups (same_items pair_cmp pairs d) (length pairs) ns fs) → AreGroups (same_numbers a b) (length a) ns fs
pairs_grouped a b pairs ns fs are grouped =
    groups_turned (same_items pair_cmp pairs (0, 0)) (same_numbers a b) (length pairs) (length a) ns fs size agree (grouped (0, 0))
  where
    size : length pairs ≡ length a
    size = ap length are ∙ length-map-range_with_len (λ i. (get_or a i 0, get_or b i 0)) 0 (length a)

    at : (i : ℕ) → i < length a → get_or pairs i (0, 0) ≡ (get_or a i 0, get_or b i 0)
    at i low = ap (λ (l : List (ℕ × ℕ)). get_or l i (0, 0)) are ∙ get_or-map-range_with_len (λ i. (get_or a i 0, get_or b i 0)) 0 (length a) i i (0, 0) low (omega arith)

    agree : (i j : ℕ) → i < length pairs → j < length pairs → same_items pair_cmp pairs (0, 0) i j ≡ same_numbers a b i j
    agree i j i_low j_low =
        ap₂ (λ p q. is_eq (pair_cmp p q)) (at i (omega (arith, size))) (at j (omega (arith, size)))
        ∙ then-eq (nat_cmp (get_or a i 0) (get_or a j 0)) (nat_cmp (get_or b i 0) (get_or b j 0))
        ∙ ap₂ (λ x y. x && y) (unsigned_tied (get_or a i 0) (get_or a j 0)) (unsigned_tied (get_or b i 0) (get_or b j 0))

-- ---- one key after another

rows_equiv : (keys : List Bound) (s : ResultRows) → IsEquivalence (same_rows keys s)
rows_equiv keys s = on_equiv (λ (j : ℕ). key_of keys (row_in s j)) keys_equiv

values_equiv : (k : Bound) (s : ResultRows) → IsEquivalence (same_values k s)
values_equiv k s = on_equiv (λ (j : ℕ). value k (row_in s j)) cells_equiv

and_true : (b : Bool) → (b && true) ≡ b
and_true true = refl
and_true false = refl

pub first_key : (keys : List Bound) (k : Bound) (s : ResultRows) (n : ℕ) (ns fs : List ℕ) → 0 < length keys → k ≡ get_or keys 0 k → AreGroups (same_values k s) n ns fs → AreGroups (same_rows (take 1 keys) s) n ns fs
first_key [] k s n ns fs some is are = absurd (omega arith)
first_key (x ∷ xs) k s n ns fs some is are =
    groups_turned (same_values k s) (same_rows (x ∷ []) s) n n ns fs refl
    (λ i j i_low j_low. ap (λ e. same_values e s i j) is ∙ sym (and_true (same_values x s i j))) are

same_key-more : (keys : List Bound) (k : Bound) (a b : Row) → same_key (key_of (keys ++ k ∷ []) a) (key_of (keys ++ k ∷ []) b) ≡ (same_key (key_of keys a) (key_of keys b) && cell_eq (value k a) (value k b))
same_key-more [] k a b = and_true (cell_eq (value k a) (value k b))
same_key-more (x ∷ xs) k a b =
    ap (λ t. cell_eq (value x a) (value x b) && t) (same_key-more xs k a b) ∙ by (cell_eq (value x a) (value x b))
  where
    by : (t : Bool) → (t && (same_key (key_of xs a) (key_of xs b) && cell_eq (value k a) (value k b))) ≡ ((t && same_key (key_of xs a) (key_of xs b)) && cell_eq (value k a) (value k b))
    by true = refl
    by false = refl

pub next_key : (keys : List Bound) (i : ℕ) (k : Bound) (s : ResultRows) (n : ℕ) (ns fs more_ns more_fs given further both_ns both_fs : List ℕ) → i < length keys → k ≡ get_or keys i k
    → AreGroups (same_rows (take i keys) s) n ns fs → AreGroups (same_values k s) n more_ns more_fs → given ≡ ns → further ≡ more_ns
    → AreGroups (same_numbers given further) (length given) both_ns both_fs → AreGroups (same_rows (take (i + 1) keys) s) n both_ns both_fs
next_key keys i k s n ns fs more_ns more_fs given further both_ns both_fs low is are more given_is further_is both =
    groups_turned (same_numbers given further) (same_rows (take (i + 1) keys) s) (length given) n both_ns both_fs size agree both
  where
    size : length given ≡ n
    size = ap length given_is ∙ are.count

    whole : take (i + 1) keys ≡ take i keys ++ k ∷ []
    whole = take_more keys i k low ∙ ap (λ e. take i keys ++ e ∷ []) (sym is)

    agree : (x y : ℕ) → x < length given → y < length given → same_numbers given further x y ≡ same_rows (take (i + 1) keys) s x y
    agree x y x_low y_low =
        ap₂ (λ a b. same_numbers a b x y) given_is further_is
        ∙ ap₂ (λ a b. a && b)
        (tells (same_rows (take i keys) s) (rows_equiv (take i keys) s) n ns fs are x y (omega (arith, size)) (omega (arith, size)))
        (tells (same_values k s) (values_equiv k s) n more_ns more_fs more x y (omega (arith, size)) (omega (arith, size)))
        ∙ sym (same_key-more (take i keys) k (row_in s x) (row_in s y))
        ∙ ap (λ (ks : List Bound). same_rows ks s x y) (sym whole)

-- ---- the rows of the answer

-- the row of a group: the keys of its first row, and what aggregates make of its rows
abbrev pub row_of_group : List Bound → List Agg → List ℕ → List ℕ → ResultRows → ℕ → Row
row_of_group keys aggs ns fs s n = key_of keys (row_in s (get_or fs n 0)) ++ aggregates aggs (members n ns (rows_in s))

pub key_rows : (keys : List Bound) (s : ResultRows) (i : ℕ) → i < length (rows_in s) → get_or (map (key_of keys) (rows_in s)) i [] ≡ key_of keys (row_in s i)
key_rows keys s i low = get_or-map (key_of keys) (rows_in s) i [] [] low

groups_some : (keys : List Bound) (rows : List Row) → 0 < length keys → groups_of keys rows ≡ distinct (map (key_of keys) rows)
groups_some [] rows some = absurd (omega arith)
groups_some (k ∷ ks) rows some = refl

module _ (keys : List Bound) (s : ResultRows) (ns fs : List ℕ) (are : AreGroups (same_rows keys s) (length s.places) ns fs) where
  -- the groups' keys are those of their first rows
  pub heads : map (λ i. get_or (map (key_of keys) (rows_in s)) i []) fs ≡ distinct (map (key_of keys) (rows_in s))
  heads =
      let all : List Row = map (key_of keys) (rows_in s) in
      let size : length (map (key_of keys) (rows_in s)) ≡ length s.places = length-map (rows_in s) (key_of keys) ∙ length_rows s in
      ap (map (λ i. get_or (map (key_of keys) (rows_in s)) i [])) are.lead
      ∙ leaders_distinct (same_rows keys s) (map (key_of keys) (rows_in s)) (λ i j i_low j_low. sym (ap₂ same_key (key_rows keys s i (omega (arith, size, length_rows s))) (key_rows keys s j (omega (arith, size, length_rows s))))) (length s.places) (omega (arith, size))
      ∙ ap distinct (take_all (length s.places) (map (key_of keys) (rows_in s)) (omega (arith, size)))

  -- the rows of a number are those with the keys of the group's first row
  pub group_rows : (n : ℕ) → n < length fs → members n ns (rows_in s) ≡ rows_of keys (key_of keys (row_in s (get_or fs n 0))) (rows_in s)
  group_rows n low =
      members-filter n ns (rows_in s) (λ row. same_key (key_of keys (row_in s (get_or fs n 0))) (key_of keys row)) [] (are.count ∙ sym (length_rows s))
      (λ i there. told (same_rows keys s) (rows_equiv keys s) (length s.places) ns fs are i n (omega (arith, length_rows s)) low)

-- the row that the meaning gives of some keys
abbrev whole_row : GroupSpec → ResultRows → Row → Row
whole_row spec s key = key ++ aggregates spec.aggs (rows_of spec.keys key (rows_in s))

abbrev head_rows : List Bound → ResultRows → List ℕ → List Row
head_rows keys s fs = map (λ i. get_or (map (key_of keys) (rows_in s)) i []) fs

pub rows_grouped : (spec : GroupSpec) (s : ResultRows) (ns fs : List ℕ) → 0 < length spec.keys → AreGroups (same_rows spec.keys s) (length s.places) ns fs
    → map (row_of_group spec.keys spec.aggs ns fs s) (range_with_len 0 (length fs)) ≡ grouped spec (rows_in s)
rows_grouped spec s ns fs some are =
    sym (ap (map (whole_row spec s)) (groups_some spec.keys (rows_in s) some ∙ sym (heads spec.keys s ns fs are)) ∙ fill_by_all (row_of_group spec.keys spec.aggs ns fs s) (map (whole_row spec s) (head_rows spec.keys s fs)) (length fs) [] size at)
  where
    size : length (map (whole_row spec s) (head_rows spec.keys s fs)) ≡ length fs
    size = length-map (head_rows spec.keys s fs) (whole_row spec s) ∙ length-map fs (λ i. get_or (map (key_of spec.keys) (rows_in s)) i [])

    at : (n : ℕ) → n < length fs → get_or (map (whole_row spec s) (head_rows spec.keys s fs)) n [] ≡ row_of_group spec.keys spec.aggs ns fs s n
    at n low =
        let first : get_or fs n 0 < length s.places = first_below (same_rows spec.keys s) (length s.places) ns fs n 0 are low in
        get_or-map (whole_row spec s) (head_rows spec.keys s fs) n [] [] (omega (arith, length-map fs (λ i. get_or (map (key_of spec.keys) (rows_in s)) i [])))
        ∙ ap (whole_row spec s) (get_or-map (λ i. get_or (map (key_of spec.keys) (rows_in s)) i []) fs n 0 [] low ∙ key_rows spec.keys s (get_or fs n 0) (omega (arith, length_rows s)))
        ∙ ap (λ (rows : List Row). key_of spec.keys (row_in s (get_or fs n 0)) ++ aggregates spec.aggs rows) (sym (group_rows spec.keys s ns fs are n low))

all_rows : (xs : List Row) → xs ≡ rows_of [] [] xs
all_rows [] = refl
all_rows (x ∷ xs) = ap (λ l. x ∷ l) (all_rows xs)

-- without keys there is one row
pub whole_grouped : (spec : GroupSpec) (rows : List Row) → length spec.keys ≡ 0 → aggregates spec.aggs rows ∷ [] ≡ grouped spec rows
whole_grouped spec rows none = by spec.keys none
  where
    by : (keys : List Bound) → length keys ≡ 0 → aggregates spec.aggs rows ∷ [] ≡ map (λ (key : Row). key ++ aggregates spec.aggs (rows_of keys key rows)) (groups_of keys rows)
    by [] e = ap (λ (xs : List Row). aggregates spec.aggs xs ∷ []) (all_rows rows)
    by (k ∷ ks) e = absurd (omega arith)

-- ---- the answers of a group

answers_each : (ns : List ℕ) (groups : ℕ) (rows : List Row) (n : ℕ) → n < groups → (list : List Agg) → map (λ (l : List Cell). get_or l n cell.Null) (map (answers_of ns groups rows) list) ≡ aggregates list (members n ns rows)
answers_each ns groups rows n low [] = refl
answers_each ns groups rows n low (a ∷ rest) = ap₂ (λ c l. c ∷ l) (get_or-map-range_with_len (λ m. aggregate (members m ns rows) a) 0 groups n n cell.Null low (omega arith)) (answers_each ns groups rows n low rest)

-- the answers at one position of each column are those of one group
pub answers_at : (ns : List ℕ) (groups : ℕ) (rows : List Row) (aggs : List Agg) (columns : List (List Cell)) (n : ℕ) → n < groups → columns ≡ map (answers_of ns groups rows) aggs
    → map (λ (l : List Cell). get_or l n cell.Null) columns ≡ aggregates aggs (members n ns rows)
answers_at ns groups rows aggs columns n low are = ap (map (λ (l : List Cell). get_or l n cell.Null)) are ∙ answers_each ns groups rows n low aggs

answers_sized : (ns : List ℕ) (groups : ℕ) (rows : List Row) (list : List Agg) (k : ℕ) (d : List Cell) → k < length list → length (get_or (map (answers_of ns groups rows) list) k d) ≡ groups
answers_sized ns groups rows [] k d there = absurd (omega arith)
answers_sized ns groups rows (a ∷ rest) zero d there = length-map-range_with_len (λ m. aggregate (members m ns rows) a) 0 groups
answers_sized ns groups rows (a ∷ rest) (suc k) d there = answers_sized ns groups rows rest k d (omega arith)

pub answers_fit : (ns : List ℕ) (groups : ℕ) (rows : List Row) (aggs : List Agg) (columns : List (List Cell)) → columns ≡ map (answers_of ns groups rows) aggs → (k : ℕ) (d : List Cell) → k < length columns → length (get_or columns k d) ≡ groups
answers_fit ns groups rows aggs columns are k d low =
    ap (λ (ls : List (List Cell)). length (get_or ls k d)) are ∙ answers_sized ns groups rows aggs k d (omega (arith, ap length are, length-map aggs (answers_of ns groups rows)))

-- ---- one row more

pub keys_more : (e : Bound) (s : ResultRows) (i : ℕ) (keys more : List Key) (k : Key) (place : Joined) → i < length s.places → slice_get s.places i ≡ Some place → map lent keys ≡ map (value e) (take i (rows_in s))
    → lent k ≡ value e (row_of_place s place) → more ≡ keys ++ k ∷ [] → map lent more ≡ map (value e) (take (i + 1) (rows_in s))
keys_more e s i keys more k place low at before is whole =
    ap (map lent) whole
    ∙ map_push lent keys k
    ∙ ap₂ (λ l c. l ++ c ∷ []) before (is ∙ ap (value e) (sym (row_found s i place at)))
    ∙ sym (map_more (value e) (rows_in s) i [] (omega (arith, length_rows s)))

-- ---- columns of answers

-- each column of answers has one for each group
pub columns_fit : {C : Type 0} (items : C → List Scalar) (columns : List C) (ns : List ℕ) (groups : ℕ) (rows : List Row) (aggs : List Agg) (n : ℕ) → n < groups
    → map (λ c. map cell_of (items c)) columns ≡ map (answers_of ns groups rows) aggs → All (λ c. n < length (items c)) columns
columns_fit items columns ns groups rows aggs n low are = λ k d there.
    let shown = get_or-map (λ c. map cell_of (items c)) columns k d (map cell_of (items d)) there in
    let size = answers_fit ns groups rows aggs (map (λ c. map cell_of (items c)) columns) are k (map cell_of (items d)) (omega (arith, length-map columns (λ c. map cell_of (items c)))) in
    omega (arith, low, size, ap length shown, length-map (items (get_or columns k d)) cell_of)

-- the row of a group, from its keys and the columns of answers
pub row_is : {C : Type 0} (items : C → List Scalar) (columns : List C) (keys : List Bound) (aggs : List Agg) (ns fs : List ℕ) (s : ResultRows) (n f : ℕ) (row made : Row) → n < length fs → f ≡ get_or fs n 0
    → map (λ c. map cell_of (items c)) columns ≡ map (answers_of ns (length fs) (rows_in s)) aggs → row ≡ key_of keys (row_in s f)
    → made ≡ row ++ map (λ c. get_or (map cell_of (items c)) n cell.Null) columns → made ≡ row_of_group keys aggs ns fs s n
row_is items columns keys aggs ns fs s n f row made low first are same_row whole =
    whole
    ∙ ap₂ (λ (a b : Row). a ++ b) (same_row ∙ ap (λ i. key_of keys (row_in s i)) first)
    (sym (map-map (λ (l : List Cell). get_or l n cell.Null) (λ c. map cell_of (items c)) columns)
    ∙ answers_at ns (length fs) (rows_in s) aggs (map (λ c. map cell_of (items c)) columns) n low are)

-- one row more
pub made_more : (keys : List Bound) (aggs : List Agg) (ns fs : List ℕ) (s : ResultRows) (n : ℕ) (made more : List Row) (row : Row) → made ≡ map (row_of_group keys aggs ns fs s) (range_with_len 0 n) → row ≡ row_of_group keys aggs ns fs s n
    → more ≡ made ++ row ∷ [] → more ≡ map (row_of_group keys aggs ns fs s) (range_with_len 0 (n + 1))
made_more keys aggs ns fs s n made more row are is whole =
    whole ∙ ap₂ (λ (l : List Row) (r : Row). l ++ r ∷ []) are is ∙ sym (map-range_with_len_more (row_of_group keys aggs ns fs s) 0 n n (omega arith))
