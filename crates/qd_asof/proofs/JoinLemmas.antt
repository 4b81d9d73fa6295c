-- The right rows that are taken are those of the meaning.
use Rattle.std.proofs.Common.{◌≡◌, ℕ, zero, suc, ◌+◌, ◌-◌, ◌<◌, ◌≤◌, Bool, true, false, cond, eqb, List, [], ◌∷◌, ◌++◌, Option, Some, None, length, map, take, drop, get_or, refl, sym, ap, ap₂, ◌∙◌, arith, add-one, length-drop, subst, All, inl, inr}
use Rattle.std.specs.Prelude.{◌&&◌, slice_range}
use Rattle.std.specs.List.{range_with_len, zip, list_all, filter, AllByRecursion}
use Rattle.std.proofs.lemmas.List.{get_or-drop, get_or-map, get_or-take, get_or_append_left, get_or-append_right, get_or_default, length-map, length-take, take_more, take_all}
use Rattle.std.proofs.lemmas.List.Elements.{All-drop, All-take, filter-append}
use Rattle.std.proofs.lemmas.List.FromFn.{fill_by_all, get_or-map-range_with_len, length-map-range_with_len}
use Rattle.qd_base.specs.Laws.{IsInOrder}
use Rattle.qd_base.specs.Rows.{Row, cell_at, cell_eq, time_of}
use Rattle.qd_expr.specs.Passing.{row_in}
use Rattle.qd_meaning.specs.declared.parts.JoinSpec.{JoinSpec}
use Rattle.qd_meaning.specs.Grouped.{same_key}
use Rattle.qd_meaning.specs.Joined.{is_early, joined, last_or, may_take}
use Rattle.qd_rows.specs.Sets.{ResultRows, absent, row_of_place, rows_in}
use Rattle.qd_keys.specs.Keys.{first_key, second_key, keys_of_both, same_keys, Tells}
use Rattle.qd_asof.specs.Choices.{choice, last_spot, right_cells, row_beside, IsChoice, IsRising}
use Rattle.qd_asof.proofs.ChoiceLemmas.{spot_below, spot_same}

-- ---- keys of a left and of a right row

both-keys : (ks : List (ℕ × ℕ)) (l r : Row) → same_key (first_key ks l) (second_key ks r) ≡ list_all (λ (k : ℕ × ℕ). cell_eq (cell_at l k.0) (cell_at r k.1)) ks
both-keys [] l r = refl
both-keys (k ∷ ks) l r = ap (λ b. cell_eq (cell_at l k.0) (cell_at r k.1) && b) (both-keys ks l r)

add_less : (n i : ℕ) → n + i - n ≡ i
add_less n i = omega arith

pub keys_across : (ks : List (ℕ × ℕ)) (left right : List Row) (i j : ℕ) → i < length left → j < length right
    → same_keys ks left right i (length left + j) ≡ list_all (λ (k : ℕ × ℕ). cell_eq (cell_at (get_or left i []) k.0) (cell_at (get_or right j []) k.1)) ks
keys_across ks left right i j i_low j_low = ap₂ same_key at_left at_right ∙ both-keys ks (get_or left i []) (get_or right j [])
  where
    at_left : get_or (keys_of_both ks left right) i [] ≡ first_key ks (get_or left i [])
    at_left = get_or_append_left (map (first_key ks) left) (map (second_key ks) right) [] i (omega (arith, length-map left (first_key ks))) ∙ get_or-map (first_key ks) left i [] [] i_low

    at_right : get_or (keys_of_both ks left right) (length left + j) [] ≡ second_key ks (get_or right j [])
    at_right =
        get_or-append_right (map (first_key ks) left) (map (second_key ks) right) (length left) (length left + j) [] (length-map left (first_key ks)) (omega arith)
        ∙ ap (λ k. get_or (map (second_key ks) right) k []) (add_less (length left) j)
        ∙ get_or-map (second_key ks) right j [] [] j_low

-- ---- the last row that passes

abbrev pub row_or : Row → List Row → Option ℕ → Row
row_or missing rows None = missing
row_or missing rows (Some j) = get_or rows j []

last-push : (missing : Row) (xs : List Row) (x : Row) → last_or missing (xs ++ x ∷ []) ≡ x
last-push missing [] x = refl
last-push missing (y ∷ ys) x = last-push y ys x

append_none : (xs : List Row) → xs ++ [] ≡ xs
append_none [] = refl
append_none (x ∷ xs) = ap (λ l. x ∷ l) (append_none xs)

last_passing : (missing : Row) (p : Row → Bool) (rows : List Row) (n : ℕ) → n ≤ length rows → last_or missing (filter p (take n rows)) ≡ row_or missing rows (last_spot (λ j. p (get_or rows j [])) n)
last_passing missing p rows zero within = refl
last_passing missing p rows (suc n) within =
    ap (λ (l : List Row). last_or missing (filter p l)) (ap (λ k. take k rows) (sym (add-one n)) ∙ take_more rows n [] (omega arith))
    ∙ ap (last_or missing) (filter-append p (take n rows) (get_or rows n [] ∷ []))
    ∙ by (p (get_or rows n [])) (filter p (take n rows)) (last_spot (λ j. p (get_or rows j [])) n) (last_passing missing p rows n (omega arith))
  where
    by : (b : Bool) (xs : List Row) (o : Option ℕ) → last_or missing xs ≡ row_or missing rows o → last_or missing (xs ++ cond b (get_or rows n [] ∷ []) []) ≡ row_or missing rows (cond b (Some n) o)
    by true xs o e = last-push missing xs (get_or rows n [])
    by false xs o e = ap (last_or missing) (append_none xs) ∙ e

-- ---- both sides

part_at : (xs : List ℕ) (a b i : ℕ) → i < b - a → get_or (slice_range xs a b) i 0 ≡ get_or xs (a + i) 0
part_at xs a b i low = get_or-take (b - a) (drop a xs) i 0 low ∙ get_or-drop a xs i 0

pub part_below : (bound : ℕ) (xs : List ℕ) (a b : ℕ) → All (λ n. n < bound) xs → All (λ n. n < bound) (slice_range xs a b)
part_below bound xs a b below = All-take (λ n. n < bound) (b - a) (drop a xs) (All-drop (λ n. n < bound) a xs below)

pub length-part : (xs : List ℕ) (a b : ℕ) → b ≤ length xs → length (slice_range xs a b) ≡ b - a
length-part xs a b within = omega (arith, length-take (b - a) (drop a xs), length-drop a xs)

zero_add : (i : ℕ) → 0 + i ≡ i
zero_add i = omega arith

module _ (spec : JoinSpec) (left_time right_time : ℕ) (left right : ResultRows) (bound : ℕ) (ns left_numbers right_numbers left_times right_times : List ℕ) (chosen : List (Option ℕ))
    (told : Tells (same_keys (zip spec.left spec.right) (rows_in left) (rows_in right)) (length left.places + length right.places) bound ns)
    (left_is : left_numbers ≡ slice_range ns 0 (length left.places)) (right_is : right_numbers ≡ slice_range ns (length left.places) (length ns))
    (left_times_are : left_times ≡ map (time_of left_time) (rows_in left)) (right_times_are : right_times ≡ map (time_of right_time) (rows_in right))
    (are : chosen ≡ map (choice spec.strict left_numbers left_times right_numbers right_times) (range_with_len 0 (length left_times))) where
  left_size : length (rows_in left) ≡ length left.places
  left_size = length-map left.places (row_of_place left)

  right_size : length (rows_in right) ≡ length right.places
  right_size = length-map right.places (row_of_place right)

  left_count : length left_times ≡ length left.places
  left_count = ap length left_times_are ∙ length-map (rows_in left) (time_of left_time) ∙ left_size

  right_count : length right_times ≡ length right.places
  right_count = ap length right_times_are ∙ length-map (rows_in right) (time_of right_time) ∙ right_size

  left_number : (i : ℕ) → i < length left.places → get_or left_numbers i 0 ≡ get_or ns i 0
  left_number i low = ap (λ (l : List ℕ). get_or l i 0) left_is ∙ part_at ns 0 (length left.places) i (omega arith) ∙ ap (λ k. get_or ns k 0) (zero_add i)

  right_number : (j : ℕ) → j < length right.places → get_or right_numbers j 0 ≡ get_or ns (length left.places + j) 0
  right_number j low = ap (λ (l : List ℕ). get_or l j 0) right_is ∙ part_at ns (length left.places) (length ns) j (omega (arith, told.count))

  -- what the numbers and times say of a left and a right row
  takes : (i j : ℕ) → i < length left.places → j < length right.places
      → (eqb (get_or left_numbers i 0) (get_or right_numbers j 0) && is_early spec.strict (get_or left_times i 0) (get_or right_times j 0)) ≡ may_take spec left_time right_time (row_in left i) (row_in right j)
  takes i j i_low j_low =
      ap₂ (λ (a b : Bool). a && b)
      (ap₂ eqb (left_number i i_low) (right_number j j_low) ∙ told.each i (length left.places + j) (omega arith) (omega arith)
      ∙ ap (λ n. same_keys (zip spec.left spec.right) (rows_in left) (rows_in right) i (n + j)) (sym left_size)
      ∙ keys_across (zip spec.left spec.right) (rows_in left) (rows_in right) i j (omega (arith, left_size)) (omega (arith, right_size)))
      (ap₂ (is_early spec.strict)
      (ap (λ (l : List ℕ). get_or l i 0) left_times_are ∙ get_or-map (time_of left_time) (rows_in left) i [] 0 (omega (arith, left_size)))
      (ap (λ (l : List ℕ). get_or l j 0) right_times_are ∙ get_or-map (time_of right_time) (rows_in right) j [] 0 (omega (arith, right_size))))

  chosen_at : (i : ℕ) → i < length left.places → get_or chosen i None ≡ last_spot (λ j. may_take spec left_time right_time (row_in left i) (row_in right j)) (length right.places)
  chosen_at i low =
      ap (λ (l : List (Option ℕ)). get_or l i None) are
      ∙ get_or-map-range_with_len (choice spec.strict left_numbers left_times right_numbers right_times) 0 (length left_times) i i None (omega (arith, left_count)) (omega arith)
      ∙ ap (last_spot (λ j. eqb (get_or left_numbers i 0) (get_or right_numbers j 0) && is_early spec.strict (get_or left_times i 0) (get_or right_times j 0))) right_count
      ∙ spot_same (λ j. eqb (get_or left_numbers i 0) (get_or right_numbers j 0) && is_early spec.strict (get_or left_times i 0) (get_or right_times j 0)) (λ j. may_take spec left_time right_time (row_in left i) (row_in right j)) (length right.places)
      (λ j there. takes i j low there)

  cells_or : (c : Option ℕ) → right_cells right c ≡ row_or (absent right.left) (rows_in right) c
  cells_or None = refl
  cells_or (Some j) = refl

  -- the rows beside one another are those of the meaning
  pub rows_joined : map (row_beside left right chosen) (range_with_len 0 (length left.places)) ≡ joined spec left_time right_time (absent right.left) (rows_in left) (rows_in right)
  rows_joined = sym (fill_by_all (row_beside left right chosen) (joined spec left_time right_time (absent right.left) (rows_in left) (rows_in right)) (length left.places) []
      (length-map (rows_in left) (λ (l : Row). l ++ last_or (absent right.left) (filter (may_take spec left_time right_time l) (rows_in right))) ∙ left_size)
      (λ i low.
      get_or-map (λ (l : Row). l ++ last_or (absent right.left) (filter (may_take spec left_time right_time l) (rows_in right))) (rows_in left) i [] [] (omega (arith, left_size))
      ∙ ap (λ (r : Row). row_in left i ++ r)
      (ap (λ (l : List Row). last_or (absent right.left) (filter (may_take spec left_time right_time (row_in left i)) l)) (sym (take_all (length right.places) (rows_in right) (omega (arith, right_size))))
      ∙ last_passing (absent right.left) (may_take spec left_time right_time (row_in left i)) (rows_in right) (length right.places) (omega (arith, right_size))
      ∙ sym (cells_or (last_spot (λ j. may_take spec left_time right_time (row_in left i) (row_in right j)) (length right.places)))
      ∙ ap (right_cells right) (sym (chosen_at i low)))))

  pub chosen_below : All (IsChoice (length right.places)) chosen
  chosen_below = λ i d low.
      let here : i < length left.places = omega (arith, ap length are, left_count, length-map-range_with_len (choice spec.strict left_numbers left_times right_numbers right_times) 0 (length left_times)) in
      subst (IsChoice (length right.places)) (get_or_default chosen i None d low) (subst (IsChoice (length right.places)) (sym (chosen_at i here)) (by (λ j. may_take spec left_time right_time (row_in left i) (row_in right j)) (length right.places) (last_spot (λ j. may_take spec left_time right_time (row_in left i) (row_in right j)) (length right.places)) refl))
    where
      by : (p : ℕ → Bool) (n : ℕ) (o : Option ℕ) → last_spot p n ≡ o → IsChoice n o
      by p n None e = tt
      by p n (Some j) e = spot_below p n j e

  pub chosen_count : length chosen ≡ length left.places
  chosen_count = ap length are ∙ length-map-range_with_len (choice spec.strict left_numbers left_times right_numbers right_times) 0 (length left_times) ∙ left_count
