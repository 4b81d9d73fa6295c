-- Rows in order, and their times.
use Rattle.std.proofs.Common.{◌≡◌, ℕ, zero, suc, ◌<◌, ◌≤◌, List, [], ◌∷◌, length, map, drop, get_or, refl, sym, ap, ap₂, arith, All}
use Rattle.std.specs.List.Sorted.{IsNonDecreasing}
use Rattle.std.proofs.lemmas.List.{get_or-map, length-map}
use Rattle.qd_base.specs.declared.cell.Cell.TheVariants as cell
use Rattle.qd_base.specs.Rows.{Row, cell_at, time_in, time_of}
use Rattle.qd_base.specs.Laws.{IsInOrder}
use Rattle.std.proofs.lemmas.List.Elements.{All-from_recursion, recursion_from_All}

module _ (col : ℕ) where
  -- times that don't fall are those of rows in order
  pub rows_in_order : (rows : List Row) → IsNonDecreasing (map (time_of col) rows) → IsInOrder col rows
  rows_in_order [] rising = tt
  rows_in_order (row ∷ rows) rising =
      let later : All (λ x. time_of col row ≤ time_of col x) rows = λ k d lt. let at : get_or (map (time_of col) rows) k 0 ≡ time_of col (get_or rows k d) = get_or-map (time_of col) rows k d 0 lt in let le = rising 0 (suc k) 0 (omega arith) (omega (arith, length-map rows (time_of col))) in omega arith in
      (recursion_from_All (λ x. time_of col row ≤ time_of col x) rows later, rows_in_order rows (λ i j d low high. rising (suc i) (suc j) d (omega arith) (omega arith)))

  pub times_rise : (rows : List Row) → IsInOrder col rows → IsNonDecreasing (map (time_of col) rows)
  times_rise [] order i j d low high = absurd (omega arith)
  times_rise (row ∷ rows) order zero zero d low high = omega arith
  times_rise (row ∷ rows) order zero (suc j) d low high =
      let lt : j < length rows = omega (arith, length-map rows (time_of col)) in
      let at : get_or (map (time_of col) rows) j d ≡ time_of col (get_or rows j []) = get_or-map (time_of col) rows j [] d lt in
      let le = All-from_recursion (λ x. time_of col row ≤ time_of col x) rows order.0 j [] lt in omega arith
  times_rise (row ∷ rows) order (suc i) zero d low high = absurd (omega arith)
  times_rise (row ∷ rows) order (suc i) (suc j) d low high = times_rise rows order.1 i j d (omega arith) (omega arith)

  pub in_order-drop : (n : ℕ) (rows : List Row) → IsInOrder col rows → IsInOrder col (drop n rows)
  in_order-drop zero rows order = order
  in_order-drop (suc n) [] order = tt
  in_order-drop (suc n) (row ∷ rows) order = in_order-drop n rows order.1

  -- the moments that a block lends are its rows' times
  pub times_lent : (times : List ℕ) (rows : List Row) → map (λ t. cell.Time t) times ≡ map (λ r. cell_at r col) rows → map (time_of col) rows ≡ times
  times_lent [] [] e = refl
  times_lent [] (row ∷ rows) e = cc
  times_lent (t ∷ times) [] e = cc
  times_lent (t ∷ times) (row ∷ rows) e =
      let first : cell.Time t ≡ cell_at row col = cc in
      let rest : map (λ t. cell.Time t) times ≡ map (λ r. cell_at r col) rows = cc in
      ap₂ (λ n l. n ∷ l) (ap time_in (sym first)) (times_lent times rows rest)

-- what is dropped of images
pub map-drop : {S T : Type 0} (f : S → T) (n : ℕ) (xs : List S) → map f (drop n xs) ≡ drop n (map f xs)
map-drop f zero xs = refl
map-drop f (suc n) [] = refl
map-drop f (suc n) (x ∷ xs) = map-drop f n xs
