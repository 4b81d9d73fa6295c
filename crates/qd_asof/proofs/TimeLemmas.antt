-- Rows in order of time have rising times.
use Rattle.std.proofs.Common.{◌≡◌, ℕ, zero, suc, ◌<◌, ◌≤◌, List, [], ◌∷◌, length, map, get_or, sym, ap, ◌∙◌, arith, subst}
use Rattle.std.specs.List.{AllByRecursion}
use Rattle.std.proofs.lemmas.List.{get_or-map, length-map}
use Rattle.qd_base.specs.Laws.{IsInOrder}
use Rattle.qd_base.specs.Rows.{Row, time_of}
use Rattle.qd_asof.specs.Choices.{IsRising}

each_at : {X : Type 0} (P : X → Type 0) (xs : List X) (i : ℕ) (d : X) → AllByRecursion P xs → i < length xs → P (get_or xs i d)
each_at P [] i d all low = absurd (omega arith)
each_at P (x ∷ xs) zero d all low = all.0
each_at P (x ∷ xs) (suc i) d all low = each_at P xs i d all.1 (omega arith)

order_at : (col : ℕ) (rows : List Row) (i j : ℕ) (d : Row) → IsInOrder col rows → i ≤ j → j < length rows → time_of col (get_or rows i d) ≤ time_of col (get_or rows j d)
order_at col [] i j d order rise low = absurd (omega arith)
order_at col (r ∷ rs) zero zero d order rise low = omega arith
order_at col (r ∷ rs) zero (suc j) d order rise low = each_at (λ x. time_of col r ≤ time_of col x) rs j d order.0 (omega arith)
order_at col (r ∷ rs) (suc i) zero d order rise low = absurd (omega arith)
order_at col (r ∷ rs) (suc i) (suc j) d order rise low = order_at col rs i j d order.1 (omega arith) (omega arith)

pub times_rise : (col : ℕ) (rows : List Row) (times : List ℕ) → times ≡ map (time_of col) rows → IsInOrder col rows → IsRising times
times_rise col rows times are order i j rise low =
    subst (λ (ts : List ℕ). get_or ts i 0 ≤ get_or ts j 0) (sym are)
    (let size : length times ≡ length rows = ap length are ∙ length-map rows (time_of col) in
    let at_i : get_or (map (time_of col) rows) i 0 ≡ time_of col (get_or rows i []) = get_or-map (time_of col) rows i [] 0 (omega arith) in
    let at_j : get_or (map (time_of col) rows) j 0 ≡ time_of col (get_or rows j []) = get_or-map (time_of col) rows j [] 0 (omega arith) in
    let h = order_at col rows i j [] order rise (omega arith) in
    omega (arith, at_i, at_j, h))
