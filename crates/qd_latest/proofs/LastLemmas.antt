-- Rows whose number stands last at them.
use Rattle.std.proofs.Common.{◌≡◌, ℕ, zero, suc, ◌+◌, ◌-◌, ◌<◌, ◌≤◌, Bool, true, false, cond, eqb, List, [], ◌∷◌, ◌++◌, Some, length, map, take, drop, get_or, set, refl, sym, ap, ap₂, ◌∙◌, arith, subst, slice_get, inl, inr, length-drop, get_or-set_other, get_or-set_same}
use Rattle.std.specs.Prelude.{◌&&◌, not}
use Rattle.std.specs.List.{zip, list_any}
use Rattle.std.proofs.lemmas.Bool.{cases_eq, eq-eqb, eqb-true, eqb-false}
use Rattle.std.proofs.lemmas.List.{append-nil, get_or-drop, get_or-map, get_or_default, length-map, take_more, take_all}
use Rattle.std.proofs.lemmas.List.Folds.{list_any_at, list_any_none}
use Rattle.std.proofs.lemmas.Option.{get_or_from_slice_get, slice_get-get_or}
use Rattle.qd_base.specs.Rows.{Row, cell_at, cell_eq, same_on}
use Rattle.qd_block.proofs.RowLemmas.{got_there}
use Rattle.qd_expr.specs.Passing.{with_places}
use Rattle.qd_meaning.specs.Grouped.{same_key}
use Rattle.qd_meaning.specs.Latest.{latest}
use Rattle.qd_rows.specs.Sets.{Joined, ResultRows, row_of_place, rows_in, with_place, IsPlaced}
use Rattle.qd_keys.specs.Keys.{first_key, keys_of_both, same_keys, Tells}
use Rattle.qd_latest.specs.Lasts.{places_where, stands, AreLast}

-- ---- the last place of each number

pub last_none : (ns last : List ℕ) → AreLast ns 0 last
last_none ns last = record { behind = λ i low. absurd (omega arith); below = λ i low. absurd (omega arith); same = λ i low. absurd (omega arith) }

pub last_more : (ns last : List ℕ) (n : ℕ) → get_or ns n 0 < length last → AreLast ns n last → AreLast ns (n + 1) (set last (get_or ns n 0) n)
last_more ns last n fits are = record {
  behind = λ i low. elim (cases_eq (get_or ns i 0) (get_or ns n 0)) [
    | inl same ↦ subst (λ (x : ℕ). i ≤ x) (sym (here i same)) (omega arith)
    | inr other ↦ subst (λ (x : ℕ). i ≤ x) (sym (there i other)) (are.behind i (before i low other))
  ];
  below = λ i low. elim (cases_eq (get_or ns i 0) (get_or ns n 0)) [
    | inl same ↦ subst (λ (x : ℕ). x < n + 1) (sym (here i same)) (omega arith)
    | inr other ↦ subst (λ (x : ℕ). x < n + 1) (sym (there i other)) (let h = are.below i (before i low other) in omega (arith, h))
  ];
  same = λ i low. elim (cases_eq (get_or ns i 0) (get_or ns n 0)) [
    | inl same ↦ ap (λ (x : ℕ). get_or ns x 0) (here i same) ∙ sym same
    | inr other ↦ ap (λ (x : ℕ). get_or ns x 0) (there i other) ∙ are.same i (before i low other)
  ];
}
  where
    here : (i : ℕ) → get_or ns i 0 ≡ get_or ns n 0 → get_or (set last (get_or ns n 0) n) (get_or ns i 0) 0 ≡ n
    here i same = ap (λ (x : ℕ). get_or (set last (get_or ns n 0) n) x 0) same ∙ get_or-set_same last (get_or ns n 0) n 0 fits

    there : (i : ℕ) → (get_or ns i 0 ≡ get_or ns n 0 → ⊥) → get_or (set last (get_or ns n 0) n) (get_or ns i 0) 0 ≡ get_or last (get_or ns i 0) 0
    there i other = get_or-set_other last (get_or ns n 0) (get_or ns i 0) n 0 other

    before : (i : ℕ) → i < n + 1 → (get_or ns i 0 ≡ get_or ns n 0 → ⊥) → i < n
    before i low other = elim (cases_eq i n) [
      | inl same ↦ absurd (other (ap (λ (x : ℕ). get_or ns x 0) same))
      | inr apart ↦ omega arith
    ]

-- ---- what stands last has nothing of its kind behind it

module _ (S : Row → Row → Bool) (rows : List Row) (ns last : List ℕ) (n : ℕ) (size : length rows ≡ n)
    (told : (i j : ℕ) → i < n → j < n → eqb (get_or ns i 0) (get_or ns j 0) ≡ S (get_or rows i []) (get_or rows j [])) (are : AreLast ns n last) where
  row_behind : (i k : ℕ) (d : Row) → k < length (drop (suc i) rows) → get_or (drop (suc i) rows) k d ≡ get_or rows (suc i + k) []
  row_behind i k d low = get_or-drop (suc i) rows k d ∙ get_or_default rows (suc i + k) d [] (omega (arith, length-drop (suc i) rows))

  pub stands_last : (i : ℕ) → i < n → stands ns last i ≡ not (list_any (S (get_or rows i [])) (drop (suc i) rows))
  stands_last i low = by (eqb (get_or last (get_or ns i 0) 0) i) refl
    where
      by : (b : Bool) → eqb (get_or last (get_or ns i 0) 0) i ≡ b → b ≡ not (list_any (S (get_or rows i [])) (drop (suc i) rows))
      by true e = sym (ap not (list_any_none (S (get_or rows i [])) (drop (suc i) rows) (λ k d there.
          ap (S (get_or rows i [])) (row_behind i k d there)
          ∙ sym (told i (suc i + k) low (fits k there))
          ∙ apart k there (eqb (get_or ns i 0) (get_or ns (suc i + k) 0)) refl)))
        where
          fits : (k : ℕ) → k < length (drop (suc i) rows) → suc i + k < n
          fits k there = omega (arith, length-drop (suc i) rows, size)

          apart : (k : ℕ) → k < length (drop (suc i) rows) → (c : Bool) → eqb (get_or ns i 0) (get_or ns (suc i + k) 0) ≡ c → c ≡ false
          apart k there false h = refl
          apart k there true h =
              let alike : get_or last (get_or ns (suc i + k) 0) 0 ≡ get_or last (get_or ns i 0) 0 = ap (λ (x : ℕ). get_or last x 0) (sym (eqb-true (get_or ns i 0) (get_or ns (suc i + k) 0) h)) in
              let here : get_or last (get_or ns i 0) 0 ≡ i = eqb-true (get_or last (get_or ns i 0) 0) i e in
              let late = are.behind (suc i + k) (fits k there) in
              absurd (omega (arith, alike, here, late))
      by false e =
          let j : ℕ = get_or last (get_or ns i 0) 0 in
          let late : i ≤ get_or last (get_or ns i 0) 0 = are.behind i low in
          let fits : get_or last (get_or ns i 0) 0 < n = are.below i low in
          let other = eqb-false (get_or last (get_or ns i 0) 0) i e in
          let after : i < get_or last (get_or ns i 0) 0 = omega (arith, late, other) in
          let there : get_or last (get_or ns i 0) 0 - suc i < length (drop (suc i) rows) = omega (arith, length-drop (suc i) rows, size, after, fits) in
          let place : suc i + (get_or last (get_or ns i 0) 0 - suc i) ≡ get_or last (get_or ns i 0) 0 = omega (arith, after) in
          sym (ap not (list_any_at (S (get_or rows i [])) (drop (suc i) rows) (j - suc i) [] there
          (ap (S (get_or rows i [])) (row_behind i (j - suc i) [] there ∙ ap (λ (x : ℕ). get_or rows x []) place)
          ∙ sym (told i j low fits)
          ∙ eq-eqb (get_or ns i 0) (get_or ns j 0) (sym (are.same i low)))))

-- ---- the last rows by their places

add_suc : (a i : ℕ) → suc a + i ≡ a + suc i
add_suc a i = omega arith

add_zero : (a : ℕ) → a + zero ≡ a
add_zero a = omega arith

zero_add : (a : ℕ) → 0 + a ≡ a
zero_add a = omega arith

pub latest_where : (keys : List ℕ) (rows : List Row) (test : ℕ → Bool) (at : ℕ) → ((i : ℕ) → i < length rows → test (at + i) ≡ not (list_any (same_on keys (get_or rows i [])) (drop (suc i) rows)))
    → places_where test at rows ≡ latest keys rows
latest_where keys [] test at same = refl
latest_where keys (r ∷ rs) test at same =
    ap (λ b. cond b (r ∷ places_where test (suc at) rs) (places_where test (suc at) rs)) (ap test (sym (add_zero at)) ∙ same zero (omega arith))
    ∙ by (list_any (same_on keys r) rs) (places_where test (suc at) rs) (latest keys rs) (latest_where keys rs test (suc at) (λ i low. ap test (add_suc at i) ∙ same (suc i) (omega arith)))
  where
    by : (b : Bool) (xs ys : List Row) → xs ≡ ys → cond (not b) (r ∷ xs) xs ≡ cond b ys (r ∷ ys)
    by true xs ys e = e
    by false xs ys e = ap (λ l. r ∷ l) e

pub where-map : {X Y : Type 0} (f : X → Y) (test : ℕ → Bool) (at : ℕ) (xs : List X) → map f (places_where test at xs) ≡ places_where test at (map f xs)
where-map f test at [] = refl
where-map f test at (x ∷ xs) = by f (test at) x (places_where test (suc at) xs) ∙ ap (λ l. cond (test at) (f x ∷ l) l) (where-map f test (suc at) xs)
  where
    by : {X Y : Type 0} (f : X → Y) (b : Bool) (x : X) (l : List X) → map f (cond b (x ∷ l) l) ≡ cond b (f x ∷ map f l) (map f l)
    by f true x l = refl
    by f false x l = refl

pub where-push : {X : Type 0} (test : ℕ → Bool) (at : ℕ) (xs : List X) (x : X) → places_where test at (xs ++ x ∷ []) ≡ places_where test at xs ++ cond (test (at + length xs)) (x ∷ []) []
where-push test at [] x = ap (λ i. cond (test i) (x ∷ []) []) (sym (add_zero at))
where-push test at (y ∷ ys) x =
    ap (λ l. cond (test at) (y ∷ l) l) (where-push test (suc at) ys x ∙ ap (λ i. places_where test (suc at) ys ++ cond (test i) (x ∷ []) []) (add_suc at (length ys)))
    ∙ by (test at) (places_where test (suc at) ys) (cond (test (at + suc (length ys))) (x ∷ []) [])
  where
    by : (b : Bool) (l t : List _) → cond b (y ∷ l ++ t) (l ++ t) ≡ cond b (y ∷ l) l ++ t
    by true l t = refl
    by false l t = refl

-- ---- keys of one set

key-on : (keys : List ℕ) (a b : Row) → same_key (first_key (zip keys keys) a) (first_key (zip keys keys) b) ≡ same_on keys a b
key-on [] a b = refl
key-on (k ∷ ks) a b = ap (λ t. cell_eq (cell_at a k) (cell_at b k) && t) (key-on ks a b)

-- the keys of rows with no others behind them are those of the rows
pub same_alone : (keys : List ℕ) (rows : List Row) (i j : ℕ) → i < length rows → j < length rows → same_keys (zip keys keys) rows [] i j ≡ same_on keys (get_or rows i []) (get_or rows j [])
same_alone keys rows i j i_low j_low = ap₂ same_key (at i i_low) (at j j_low) ∙ key-on keys (get_or rows i []) (get_or rows j [])
  where
    at : (k : ℕ) → k < length rows → get_or (keys_of_both (zip keys keys) rows []) k [] ≡ first_key (zip keys keys) (get_or rows k [])
    at k low = ap (λ (l : List Row). get_or l k []) (append-nil (map (first_key (zip keys keys)) rows)) ∙ get_or-map (first_key (zip keys keys)) rows k [] [] low

-- the rows of the places at which numbers stand last are the last rows
pub last_kept : (keys : List ℕ) (s none : ResultRows) (kept : ResultRows) (ns last : List ℕ) (bound n m : ℕ) → length s.places ≡ n → none ≡ with_places s [] → m ≡ length none.places
    → Tells (same_keys (zip keys keys) (rows_in s) (rows_in none)) (n + m) bound ns → AreLast ns (length ns) last → kept ≡ with_places s (places_where (stands ns last) 0 s.places) → rows_in kept ≡ latest keys (rows_in s)
last_kept keys s none kept ns last bound n m size empty m_is told are is =
    ap rows_in is ∙ where-map (row_of_place s) (stands ns last) 0 s.places
    ∙ latest_where keys (rows_in s) (stands ns last) 0 (λ i low. ap (stands ns last) (zero_add i) ∙ stands_last (same_on keys) (rows_in s) ns last n rows_size apart last_all i (omega (arith, rows_size)))
  where
    rows_size : length (rows_in s) ≡ n
    rows_size = length-map s.places (row_of_place s) ∙ size

    no_more : m ≡ 0
    no_more = m_is ∙ ap (λ (x : ResultRows). length x.places) empty

    apart : (i j : ℕ) → i < n → j < n → eqb (get_or ns i 0) (get_or ns j 0) ≡ same_on keys (get_or (rows_in s) i []) (get_or (rows_in s) j [])
    apart i j i_low j_low =
        told.each i j (omega arith) (omega arith)
        ∙ ap (λ (x : ResultRows). same_keys (zip keys keys) (rows_in s) (rows_in x) i j) empty
        ∙ same_alone keys (rows_in s) i j (omega (arith, rows_size)) (omega (arith, rows_size))

    last_all : AreLast ns n last
    last_all = subst (λ (x : ℕ). AreLast ns x last) (omega (arith, told.count, no_more)) are

-- ---- one row more

module _ (s : ResultRows) (ns last : List ℕ) where
  -- the rows so far that stand last
  abbrev pub IsKept : ResultRows → ℕ → Type 0
  IsKept kept i = kept ≡ with_places s (places_where (stands ns last) 0 (take i s.places))

  next_place : (i : ℕ) (p : Joined) → slice_get s.places i ≡ Some p → places_where (stands ns last) 0 (take (i + 1) s.places) ≡ places_where (stands ns last) 0 (take i s.places) ++ cond (stands ns last i) (p ∷ []) []
  next_place i p found =
      ap (places_where (stands ns last) 0) (take_more s.places i p (got_there s.places i p found) ∙ ap (λ (q : Joined). take i s.places ++ q ∷ []) (get_or_from_slice_get s.places i p p found))
      ∙ where-push (stands ns last) 0 (take i s.places) p
      ∙ ap (λ k. places_where (stands ns last) 0 (take i s.places) ++ cond (stands ns last k) (p ∷ []) []) (zero_add (length (take i s.places)) ∙ taken i s.places (got_there s.places i p found))
    where
      taken : {X : Type 0} (i : ℕ) (xs : List X) → i < length xs → length (take i xs) ≡ i
      taken zero xs low = refl
      taken (suc i) [] low = absurd (omega arith)
      taken (suc i) (x ∷ xs) low = ap (λ k. suc k) (taken i xs (omega arith))

  pub kept_none : (kept : ResultRows) → kept ≡ with_places s [] → IsKept kept 0
  kept_none kept empty = empty

  -- a place that stands last comes in
  pub place_taken : (kept new : ResultRows) (i : ℕ) (p : Joined) → slice_get s.places i ≡ Some p → stands ns last i ≡ true → new ≡ with_place kept p → IsKept kept i → IsKept new (i + 1)
  place_taken kept new i p found same is held =
      is ∙ ap (λ (k : ResultRows). with_place k p) held
      ∙ ap (with_places s) (sym (next_place i p found ∙ ap (λ b. places_where (stands ns last) 0 (take i s.places) ++ cond b (p ∷ []) []) same))

  pub place_passed : (kept : ResultRows) (i : ℕ) (d : Joined) → i < length s.places → stands ns last i ≡ false → IsKept kept i → IsKept kept (i + 1)
  place_passed kept i d low other held =
      held
      ∙ ap (with_places s) (sym (next_place i (get_or s.places i d) (slice_get-get_or s.places i d low) ∙ ap (λ b. places_where (stands ns last) 0 (take i s.places) ++ cond b (get_or s.places i d ∷ []) []) other ∙ append-nil (places_where (stands ns last) 0 (take i s.places))))

  pub kept_all : (kept : ResultRows) (i : ℕ) → length s.places ≤ i → IsKept kept i → kept ≡ with_places s (places_where (stands ns last) 0 s.places)
  kept_all kept i done held = held ∙ ap (λ (ps : List Joined). with_places s (places_where (stands ns last) 0 ps)) (take_all i s.places done)

  -- a place of the set may stand among those that are kept
  pub placed_still : (kept : ResultRows) (i : ℕ) (p : Joined) → IsKept kept i → IsPlaced s p → IsPlaced kept p
  placed_still kept i p held there = subst (λ (k : ResultRows). IsPlaced k p) (sym held) there
