-- ORDER BY sorts.
use Rattle.std.proofs.Common.{◌≡◌, ℕ, ◌<◌, Bool, true, false, not, ◌&&◌, List, [], ◌∷◌, ◌++◌, length, map, filter, fold, get_or, refl, sym, ap, ap₂, ◌∙◌, subst, arith, All, append_assoc, append-nil}
use Rattle.std.specs.Prelude.{AllPairs, Contains, IsPermutation}
use Rattle.std.specs.Cmp.{IsStrictWeakOrder}
use Rattle.std.specs.List.{AllByRecursion, range_with_len}
use Rattle.std.specs.List.Sorted.{ties}
use Rattle.std.proofs.lemmas.List.{get_or_default}
use Rattle.std.proofs.lemmas.List.Elements.{All-cons, All-map, All-nil, filter_agree}
use Rattle.std.proofs.lemmas.List.Kept.{AllPairs-cons}
use Rattle.std.proofs.lemmas.List.Sorted.{IsPermutation-append_left, IsPermutation-cons, IsPermutation-filter_both, IsPermutation-middle, IsPermutation-refl, IsPermutation-sym, IsPermutation-to_front, IsPermutation-trans}
use Rattle.qd_base.specs.Rows.{Row}
use Rattle.qd_meaning.specs.Ordered.{ordered, placed, row_before}
use Rattle.qd_order.specs.Laws.{AreOfOneClass, OrderedSorts}
use Rattle.qd_order.specs.Orders.{Keyed, arranged, before, keyed, IsOfOneClass, OrdersAlike}
use Rattle.qd_order.proofs.Positions.{filter-map, ordered_image, rows_again, rows_before}
use Rattle.qd_order.proofs.Rises.{Rises, kept-arranged, rises-arranged}
use Rattle.qd_order.proofs.Standing.{before_weak, orders_alike}

-- ---- the same rows

placed_again : (keys : List (ℕ × Bool)) (rows : List Row) (row : Row) → IsPermutation (rows ++ row ∷ []) (placed keys rows row)
placed_again keys rows row =
    let front : List Row = filter (λ x. not (row_before keys row x)) rows in
    let back : List Row = filter (λ x. row_before keys row x) rows in
    IsPermutation-trans (rows ++ row ∷ []) (row ∷ rows) (front ++ row ∷ back) (IsPermutation-to_front rows row)
    (IsPermutation-trans (row ∷ rows) (row ∷ (front ++ back)) (front ++ row ∷ back)
    (IsPermutation-cons row rows (front ++ back) (IsPermutation-filter_both (λ x. not (row_before keys row x)) (λ x. row_before keys row x) (λ x. twice (row_before keys row x)) rows))
    (IsPermutation-sym (front ++ row ∷ back) (row ∷ (front ++ back)) (IsPermutation-middle front row back)))
  where
    twice : (b : Bool) → b ≡ not (not b)
    twice b = elim b as (λ b. b ≡ not (not b)) [ true ↦ refl | false ↦ refl ]

fold_again : (keys : List (ℕ × Bool)) (ys xs : List Row) → IsPermutation (ys ++ xs) (fold (placed keys) ys xs)
fold_again keys ys [] = subst (λ (l : List Row). IsPermutation l ys) (sym (append-nil ys)) (IsPermutation-refl ys)
fold_again keys ys (x ∷ xs) =
    subst (λ (l : List Row). IsPermutation l (fold (placed keys) (placed keys ys x) xs)) (append_assoc ys (x ∷ []) xs)
    (IsPermutation-trans ((ys ++ x ∷ []) ++ xs) (placed keys ys x ++ xs) (fold (placed keys) (placed keys ys x) xs)
    (IsPermutation-append_left xs (ys ++ x ∷ []) (placed keys ys x) (placed_again keys ys x)) (fold_again keys (placed keys ys x) xs))

-- ---- in order

module _ (keys : List (ℕ × Bool)) (rows : List Row) (one : AreOfOneClass keys rows) where
  abbrev ks : List Keyed
  ks = map (keyed rows) keys

  abbrev at : ℕ → Row
  at i = get_or rows i []

  abbrev places : List ℕ
  places = arranged (before ks) (range_with_len 0 (length rows))

  weak : IsStrictWeakOrder (before ks)
  weak = before_weak ks (orders_alike ks (All-map (λ (k : Keyed). IsOfOneClass k.0) (keyed rows) keys one))

  all_behind : (p : ℕ) (ps : List ℕ) → AllByRecursion (λ y. before ks y p ≡ false) ps → All (λ b. row_before keys b (at p) ≡ false) (map at ps)
  all_behind p [] h = All-nil (λ (b : Row). row_before keys b (at p) ≡ false)
  all_behind p (q ∷ qs) h = All-cons (λ (b : Row). row_before keys b (at p) ≡ false) (at q) (map at qs) (rows_before rows keys q p ∙ h.0) (all_behind p qs h.1)

  rows_rise : (ps : List ℕ) → Rises (before ks) ps → AllPairs (λ a b. row_before keys b a ≡ false) (map at ps)
  rows_rise [] up = λ i j d less low. absurd (omega arith)
  rows_rise (p ∷ ps) up = AllPairs-cons (λ (a b : Row). row_before keys b a ≡ false) (at p) (map at ps) (all_behind p ps up.0) (rows_rise ps up.1)

  sorted_rows : AllPairs (λ a b. row_before keys b a ≡ false) (ordered keys rows)
  sorted_rows =
      subst (λ (l : List Row). AllPairs (λ (a b : Row). row_before keys b a ≡ false) l) (ordered_image keys rows) (rows_rise places (rises-arranged (before ks) weak (range_with_len 0 (length rows))))

  -- ---- ties

  tied_at : (i : ℕ) (ps : List ℕ) → filter (ties (row_before keys) (at i)) (map at ps) ≡ map at (filter (ties (before ks) i) ps)
  tied_at i ps =
      filter-map (ties (row_before keys) (at i)) at ps
      ∙ ap (map at) (filter_agree (λ x. ties (row_before keys) (at i) (at x)) (ties (before ks) i) (λ x. ap₂ (λ a b. not a && not b) (rows_before rows keys i x) (rows_before rows keys x i)) ps)

  ties_kept : (i : ℕ) → filter (ties (row_before keys) (at i)) (ordered keys rows) ≡ filter (ties (row_before keys) (at i)) rows
  ties_kept i =
      ap (filter (ties (row_before keys) (at i))) (sym (ordered_image keys rows))
      ∙ tied_at i places
      ∙ ap (map at) (kept-arranged (before ks) weak i (range_with_len 0 (length rows)))
      ∙ sym (tied_at i (range_with_len 0 (length rows)))
      ∙ ap (filter (ties (row_before keys) (at i))) (rows_again rows)

  ties_of : (row : Row) → Contains rows row → filter (ties (row_before keys) row) (ordered keys rows) ≡ filter (ties (row_before keys) row) rows
  ties_of row has =
      subst (λ (r : Row). filter (ties (row_before keys) r) (ordered keys rows) ≡ filter (ties (row_before keys) r) rows)
      (get_or_default rows has.0 [] row has.1 ∙ has.2) (ties_kept has.0)

pub ordered-sorts : OrderedSorts
ordered-sorts = record {
  permutation = λ keys rows. fold_again keys [] rows;
  sorted = λ keys rows one. sorted_rows keys rows one;
  stable = λ keys rows row one has. ties_of keys rows one row has;
}
