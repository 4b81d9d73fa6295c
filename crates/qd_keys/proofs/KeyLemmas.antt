-- Numbers that tell rows apart, key by key.
use Rattle.std.proofs.Common.{◌≡◌, ℕ, ◌+◌, ◌-◌, ◌<◌, Bool, true, false, eqb, List, [], ◌∷◌, ◌++◌, length, map, take, get_or, refl, sym, ap, ap₂, ◌∙◌, arith, subst, All, inl, inr, length-append}
use Rattle.std.specs.Prelude.{◌&&◌, min, replicate}
use Rattle.std.specs.List.{zip}
use Rattle.std.specs.Cmp.{IsEquivalence}
use Rattle.std.proofs.lemmas.Bool.{cases_lt}
use Rattle.std.proofs.lemmas.Cmp.{nat_eq_equiv, on_equiv}
use Rattle.std.proofs.lemmas.List.{get_or_append_left, get_or-append_right, get_or-map, get_or_default, get_or-replicate, length-map, map-append, take_more}
use Rattle.std.proofs.lemmas.List.Elements.{All-replicate}
use Rattle.std.proofs.lemmas.Slice.Zip.{get_or-zip, length-zip}
use Rattle.qd_base.specs.declared.cell.Cell.{Cell}
use Rattle.qd_base.specs.declared.cell.Cell.TheVariants as cell
use Rattle.qd_base.specs.Rows.{Row, cell_at, cell_eq}
use Rattle.qd_meaning.specs.Grouped.{same_key}
use Rattle.qd_group.specs.declared.keys.Key.{Key}
use Rattle.qd_group.specs.declared.keys.Key.TheVariants as key
use Rattle.qd_group.specs.Keys.{lent}
use Rattle.qd_group.specs.Grouping.{same_items, same_numbers, AreGroups}
use Rattle.qd_group.proofs.Assembly.{key_cmp, keys_tied}
use Rattle.qd_group.proofs.Distincts.{cells_equiv}
use Rattle.qd_group.proofs.Leaders.{groups_turned, number_below, tells}
use Rattle.qd_keys.specs.Keys.{cells_of_both, first_key, second_key, keys_of_both, same_cells, same_in, same_keys, Tells}

-- ---- numbers from groups

pub told_by : (same : ℕ → ℕ → Bool) → IsEquivalence same → (n : ℕ) (ns fs : List ℕ) → AreGroups same n ns fs → Tells same n (length fs) ns
told_by same laws n ns fs are = record {
  count = are.count;
  below = λ k d low. subst (λ (x : ℕ). x < length fs) (get_or_default ns k 0 d low) (number_below same n ns fs k are (omega (arith, are.count)));
  each = tells same laws n ns fs are;
}

pub tells_turned : (s t : ℕ → ℕ → Bool) (n m bound : ℕ) (ns : List ℕ) → n ≡ m → ((i j : ℕ) → i < n → j < n → s i j ≡ t i j) → Tells s n bound ns → Tells t m bound ns
tells_turned s t n m bound ns size agree are =
    subst (λ (k : ℕ). Tells t k bound ns) size (record { count = are.count; below = are.below; each = λ i j i_low j_low. are.each i j i_low j_low ∙ agree i j i_low j_low })

-- ---- two lists of numbers

both_true : (a b : Bool) → (a && b) ≡ true → (a ≡ true) × (b ≡ true)
both_true true b e = (refl, e)
both_true false b e = cc

both_equiv : {K : Type 0} (E F : K → K → Bool) → IsEquivalence E → IsEquivalence F → IsEquivalence (λ (x y : K). E x y && F x y)
both_equiv E F e f = record {
  refl = λ x. ap₂ (λ a b. a && b) (e.refl x) (f.refl x);
  symm = λ x y. ap₂ (λ a b. a && b) (e.symm x y) (f.symm x y);
  congr = λ x y z same. let parts = both_true (E x y) (F x y) same in ap₂ (λ a b. a && b) (e.congr x y z parts.0) (f.congr x y z parts.1);
}

pub told_further : (a b : List ℕ) (ns fs : List ℕ) → AreGroups (same_numbers a b) (length a) ns fs → Tells (same_numbers a b) (length a) (length fs) ns
told_further a b ns fs are =
    told_by (same_numbers a b)
    (both_equiv (λ i j. eqb (get_or a i 0) (get_or a j 0)) (λ i j. eqb (get_or b i 0) (get_or b j 0)) (on_equiv (λ (i : ℕ). get_or a i 0) nat_eq_equiv) (on_equiv (λ (i : ℕ). get_or b i 0) nat_eq_equiv))
    (length a) ns fs are

-- ---- one key

module _ (k : ℕ × ℕ) (first second : List Row) where
  pub length-cells : length (cells_of_both k first second) ≡ length first + length second
  length-cells = length-append (map (λ r. cell_at r k.0) first) (map (λ r. cell_at r k.1) second) ∙ ap₂ (λ a b. a + b) (length-map first (λ r. cell_at r k.0)) (length-map second (λ r. cell_at r k.1))

-- keys, one side's behind the other's, are grouped as their cells
pub by_cells : (xs ys : List Cell) (keys more all given : List Key) (n m : ℕ) (ns fs : List ℕ) → length xs ≡ n → length ys ≡ m → map lent keys ≡ xs → map lent more ≡ ys → all ≡ keys ++ more → given ≡ all
    → ((d : Key) → AreGroups (same_items key_cmp given d) (length given) ns fs) → Tells (same_in (xs ++ ys)) (n + m) (length fs) ns
by_cells xs ys keys more all given n m ns fs n_is m_is shown more_shown all_is given_is are =
    told_by (same_in (xs ++ ys)) (on_equiv (λ (i : ℕ). get_or (xs ++ ys) i cell.Null) cells_equiv) (n + m) ns fs
    (groups_turned (same_items key_cmp given key.Null) (same_in (xs ++ ys)) (length given) (n + m) ns fs size agree (are key.Null))
  where
    cells : map lent given ≡ xs ++ ys
    cells = ap (map lent) (given_is ∙ all_is) ∙ map-append lent keys more ∙ ap₂ (λ (a b : List Cell). a ++ b) shown more_shown

    size : length given ≡ n + m
    size = sym (length-map given lent) ∙ ap length cells ∙ length-append xs ys ∙ ap₂ (λ a b. a + b) n_is m_is

    at : (i : ℕ) → i < length given → lent (get_or given i key.Null) ≡ get_or (xs ++ ys) i cell.Null
    at i low = sym (get_or-map lent given i key.Null cell.Null low) ∙ ap (λ (l : List Cell). get_or l i cell.Null) cells

    agree : (i j : ℕ) → i < length given → j < length given → same_items key_cmp given key.Null i j ≡ same_in (xs ++ ys) i j
    agree i j i_low j_low = keys_tied (get_or given i key.Null) (get_or given j key.Null) ∙ ap₂ cell_eq (at i i_low) (at j j_low)

pub names_grouped : (keys given : List Key) (ns fs : List ℕ) → given ≡ keys → ((d : Key) → AreGroups (same_items key_cmp given d) (length given) ns fs) → AreGroups (same_in (map lent keys)) (length keys) ns fs
names_grouped keys given ns fs is are = groups_turned (same_items key_cmp given key.Null) (same_in (map lent keys)) (length given) (length keys) ns fs (ap length is) agree (are key.Null)
  where
    at : (i : ℕ) → i < length given → lent (get_or given i key.Null) ≡ get_or (map lent keys) i cell.Null
    at i low = sym (get_or-map lent given i key.Null cell.Null low) ∙ ap (λ (l : List Key). get_or (map lent l) i cell.Null) is

    agree : (i j : ℕ) → i < length given → j < length given → same_items key_cmp given key.Null i j ≡ same_in (map lent keys) i j
    agree i j i_low j_low = keys_tied (get_or given i key.Null) (get_or given j key.Null) ∙ ap₂ cell_eq (at i i_low) (at j j_low)

-- ---- all keys

-- the cell of a row at a position over both sides
abbrev cell_of_both : List Row → List Row → ℕ → ℕ × ℕ → Cell
cell_of_both first second i k = get_or (cells_of_both k first second) i cell.Null

pub map_like : {X Y : Type 0} (f g : X → Y) (xs : List X) → ((x : X) → f x ≡ g x) → map f xs ≡ map g xs
map_like f g [] same = refl
map_like f g (x ∷ xs) same = ap₂ (λ a l. a ∷ l) (same x) (map_like f g xs same)

module _ (first second : List Row) where
  key_found : (keys : List (ℕ × ℕ)) (i : ℕ) → i < length first + length second → get_or (keys_of_both keys first second) i [] ≡ map (cell_of_both first second i) keys
  key_found keys i low = elim (cases_lt i (length first)) [
    | inl less ↦
        get_or_append_left (map (first_key keys) first) (map (second_key keys) second) [] i (omega (arith, length-map first (first_key keys)))
        ∙ get_or-map (first_key keys) first i [] [] less
        ∙ map_like (λ k. cell_at (get_or first i []) k.0) (cell_of_both first second i) keys (λ k. sym (
        get_or_append_left (map (λ r. cell_at r k.0) first) (map (λ r. cell_at r k.1) second) cell.Null i (omega (arith, length-map first (λ (r : Row). cell_at r k.0)))
        ∙ get_or-map (λ r. cell_at r k.0) first i [] cell.Null less))
    | inr more ↦
        get_or-append_right (map (first_key keys) first) (map (second_key keys) second) (length first) i [] (length-map first (first_key keys)) more
        ∙ get_or-map (second_key keys) second (i - length first) [] [] (omega arith)
        ∙ map_like (λ k. cell_at (get_or second (i - length first) []) k.1) (cell_of_both first second i) keys (λ k. sym (
        get_or-append_right (map (λ r. cell_at r k.0) first) (map (λ r. cell_at r k.1) second) (length first) i cell.Null (length-map first (λ (r : Row). cell_at r k.0)) more
        ∙ get_or-map (λ r. cell_at r k.1) second (i - length first) [] cell.Null (omega arith)))
  ]

and_true : (b : Bool) → (b && true) ≡ b
and_true true = refl
and_true false = refl

and_assoc : (a b c : Bool) → (a && (b && c)) ≡ ((a && b) && c)
and_assoc true b c = refl
and_assoc false b c = refl

key_more : (f g : ℕ × ℕ → Cell) (ks : List (ℕ × ℕ)) (k : ℕ × ℕ) → same_key (map f (ks ++ k ∷ [])) (map g (ks ++ k ∷ [])) ≡ (same_key (map f ks) (map g ks) && cell_eq (f k) (g k))
key_more f g [] k = and_true (cell_eq (f k) (g k))
key_more f g (x ∷ xs) k = ap (λ b. cell_eq (f x) (g x) && b) (key_more f g xs k) ∙ and_assoc (cell_eq (f x) (g x)) (same_key (map f xs) (map g xs)) (cell_eq (f k) (g k))

module _ (first second : List Row) (n m : ℕ) (n_is : length first ≡ n) (m_is : length second ≡ m) where
  low_in : (i : ℕ) → i < n + m → i < length first + length second
  low_in i low = omega (arith, n_is, m_is)

  keys_more : (keys : List (ℕ × ℕ)) (k : ℕ × ℕ) (i j : ℕ) → i < n + m → j < n + m → (same_keys keys first second i j && same_cells k first second i j) ≡ same_keys (keys ++ k ∷ []) first second i j
  keys_more keys k i j i_low j_low =
      ap (λ b. b && same_cells k first second i j) (ap₂ same_key (key_found first second keys i (low_in i i_low)) (key_found first second keys j (low_in j j_low)))
      ∙ sym (key_more (cell_of_both first second i) (cell_of_both first second j) keys k)
      ∙ sym (ap₂ same_key (key_found first second (keys ++ k ∷ []) i (low_in i i_low)) (key_found first second (keys ++ k ∷ []) j (low_in j j_low)))

  -- without keys all are the same
  pub no_keys : (ns : List ℕ) → ns ≡ replicate (n + m) 0 → length ns ≡ n + m → Tells (same_keys [] first second) (n + m) 1 ns
  no_keys ns is count = record {
    count = count;
    below = subst (All (λ (k : ℕ). k < 1)) (sym is) (All-replicate (λ (k : ℕ). k < 1) (n + m) 0 (omega arith));
    each = λ i j i_low j_low.
        ap₂ eqb (zero_at i i_low) (zero_at j j_low)
        ∙ sym (ap₂ same_key (key_found first second [] i (low_in i i_low)) (key_found first second [] j (low_in j j_low)));
  }
    where
      zero_at : (i : ℕ) → i < n + m → get_or ns i 0 ≡ 0
      zero_at i low = ap (λ (l : List ℕ). get_or l i 0) is ∙ get_or-replicate (n + m) i 0 0 low

  -- the first key
  pub one_key : (keys : List (ℕ × ℕ)) (k : ℕ × ℕ) (bound : ℕ) (ns : List ℕ) → 0 < length keys → get_or keys 0 (0, 0) ≡ k → Tells (same_cells k first second) (n + m) bound ns → Tells (same_keys (take 1 keys) first second) (n + m) bound ns
  one_key keys k bound ns some is are =
      tells_turned (same_cells k first second) (same_keys (take 1 keys) first second) (n + m) (n + m) bound ns refl
      (λ i j i_low j_low.
      ap (λ b. b && same_cells k first second i j) (sym (ap₂ same_key (key_found first second [] i (low_in i i_low)) (key_found first second [] j (low_in j j_low))))
      ∙ keys_more [] k i j i_low j_low ∙ ap (λ (ks : List (ℕ × ℕ)). same_keys ks first second i j) (sym (take_more keys 0 (0, 0) some ∙ ap (λ p. p ∷ []) is)))
      are

  -- one key more
  pub next_key : (keys : List (ℕ × ℕ)) (at : ℕ) (k : ℕ × ℕ) (bound more_bound both_bound : ℕ) (ns more_ns both_ns : List ℕ) → at < length keys → get_or keys at (0, 0) ≡ k → Tells (same_keys (take at keys) first second) (n + m) bound ns
      → Tells (same_cells k first second) (n + m) more_bound more_ns → Tells (same_numbers ns more_ns) (length ns) both_bound both_ns → Tells (same_keys (take (at + 1) keys) first second) (n + m) both_bound both_ns
  next_key keys at k bound more_bound both_bound ns more_ns both_ns low is are more both =
      tells_turned (same_numbers ns more_ns) (same_keys (take (at + 1) keys) first second) (length ns) (n + m) both_bound both_ns are.count
      (λ i j i_low j_low.
      ap₂ (λ a b. a && b) (are.each i j (omega (arith, are.count)) (omega (arith, are.count))) (more.each i j (omega (arith, are.count)) (omega (arith, are.count)))
      ∙ keys_more (take at keys) k i j (omega (arith, are.count)) (omega (arith, are.count))
      ∙ ap (λ (ks : List (ℕ × ℕ)). same_keys ks first second i j) (sym (take_more keys at (0, 0) low ∙ ap (λ p. take at keys ++ p ∷ []) is)))
      both

-- the keys of both sides, pair by pair
pub pair_at : (a b : List ℕ) (i : ℕ) → i < min (length a) (length b) → get_or (zip a b) i (0, 0) ≡ (get_or a i 0, get_or b i 0)
pair_at a b i low = get_or-zip a b i (0, 0) (omega arith) (omega arith)

pub pairs_below : (a b : List ℕ) (count : ℕ) → count ≡ min (length a) (length b) → length (zip a b) ≡ count
pairs_below a b count is = length-zip a b ∙ sym is

pub no_pairs : (a b : List ℕ) → min (length a) (length b) ≡ 0 → zip a b ≡ []
no_pairs a b none = by (zip a b) (length-zip a b ∙ none)
  where
    by : (ks : List (ℕ × ℕ)) → length ks ≡ 0 → ks ≡ []
    by [] e = refl
    by (k ∷ ks) e = absurd (omega (arith, e))
