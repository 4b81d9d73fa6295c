-- The sums of all buckets are the sum of the whole.
use Rattle.std.proofs.Common.{◌≡◌, ℕ, zero, suc, ◌<◌, Bool, true, false, cond, eqb, List, [], ◌∷◌, length, map, filter, get_or, refl, sym, ap, ap₂, ◌∙◌, arith, Option, None, Some, ℤ, ◌+ℤ◌}
use Rattle.std.proofs.Math.IntN.{+ℤ_assoc, +ℤ_comm}
use Rattle.std.proofs.lemmas.Bool.{eq-eqb, ne_eqb}
use Rattle.std.proofs.lemmas.List.{get_or-map, length-map}
use Rattle.qd_base.specs.declared.cell.Cell.{Cell}
use Rattle.qd_base.specs.declared.cell.Cell.TheVariants as cell
use Rattle.qd_base.specs.Rows.{Row, time_of}
use Rattle.qd_meaning.specs.Grouped.{plus, total, values}
use Rattle.qd_meaning.specs.Sampled.{align_of, in_bucket, starts}
use Rattle.qd_time.specs.Buckets.{bucket_start}
use Rattle.qd_value.specs.Value.{value}
use Rattle.qd_sample.specs.Sampling.{starts_of}
use Rattle.qd_sample.specs.Laws.{plus_sum, sum_of_sums, SumsOfBuckets}
use Rattle.qd_sample.proofs.Sublists.{Rises}
use Rattle.qd_sample.proofs.TimeLemmas.{last_time, times_are}
use Rattle.qd_sample.proofs.Whole.{starts_are}

-- ---- a number more

-- a cell more in the first of two sums
more_first : (c : Cell) (a b : Option ℤ) → plus_sum (plus c a) b ≡ plus c (plus_sum a b)
more_first cell.Null a b = refl
more_first (cell.Bool x) a b = refl
more_first (cell.Text x) a b = refl
more_first (cell.Time x) a b = refl
more_first (cell.Long x) None None = refl
more_first (cell.Long x) None (Some z) = refl
more_first (cell.Long x) (Some y) None = refl
more_first (cell.Long x) (Some y) (Some z) = ap (λ (n : ℤ). Some n) (+ℤ_assoc x y z)

turned : (x y z : ℤ) → (y +ℤ (x +ℤ z)) ≡ (x +ℤ (y +ℤ z))
turned x y z = sym (+ℤ_assoc y x z) ∙ ap (λ (n : ℤ). n +ℤ z) (+ℤ_comm y x) ∙ +ℤ_assoc x y z

-- a cell more in the second
more_second : (c : Cell) (a b : Option ℤ) → plus_sum a (plus c b) ≡ plus c (plus_sum a b)
more_second cell.Null a b = refl
more_second (cell.Bool x) a b = refl
more_second (cell.Text x) a b = refl
more_second (cell.Time x) a b = refl
more_second (cell.Long x) None None = refl
more_second (cell.Long x) None (Some z) = refl
more_second (cell.Long x) (Some y) None = ap (λ (n : ℤ). Some n) (+ℤ_comm y x)
more_second (cell.Long x) (Some y) (Some z) = ap (λ (n : ℤ). Some n) (turned x y z)

-- ---- a cell more in one of the sums

-- the sums, with a cell more in that of a class
abbrev with_cell : ℕ → Cell → (ℕ → Option ℤ) → ℕ → Option ℤ
with_cell v c sums s = cond (eqb v s) (plus c (sums s)) (sums s)

none_here : (v : ℕ) (c : Cell) (sums : ℕ → Option ℤ) (ss : List ℕ) → ((k : ℕ) → k < length ss → get_or ss k 0 ≡ v → ⊥) → map (with_cell v c sums) ss ≡ map sums ss
none_here v c sums [] none = refl
none_here v c sums (s ∷ ss) none =
    ap₂ (λ (a : Option ℤ) (l : List (Option ℤ)). a ∷ l) (ap (λ (b : Bool). cond b (plus c (sums s)) (sums s)) (ne_eqb v s (λ e. none zero (omega arith) (sym e))))
    (none_here v c sums ss (λ k low e. none (suc k) (omega arith) e))

rises_on : (x : ℕ) (xs : List ℕ) → Rises (x ∷ xs) → Rises xs
rises_on x xs rise a b less low = rise (suc a) (suc b) (omega arith) (omega arith)

one_here : (v : ℕ) (c : Cell) (sums : ℕ → Option ℤ) (ss : List ℕ) (k : ℕ) → Rises ss → k < length ss → get_or ss k 0 ≡ v → sum_of_sums (map (with_cell v c sums) ss) ≡ plus c (sum_of_sums (map sums ss))
one_here v c sums [] k rise low is = absurd (omega arith)
one_here v c sums (s ∷ ss) zero rise low is =
    ap₂ plus_sum (ap (λ (b : Bool). cond b (plus c (sums s)) (sums s)) (eq-eqb v s (sym is)))
    (ap sum_of_sums (none_here v c sums ss (λ j there e. let later = rise zero (suc j) (omega arith) (omega arith) in omega (arith, e, is, later))))
    ∙ more_first c (sums s) (sum_of_sums (map sums ss))
one_here v c sums (s ∷ ss) (suc k) rise low is =
    ap₂ plus_sum (ap (λ (b : Bool). cond b (plus c (sums s)) (sums s)) (ne_eqb v s (λ e. let later = rise zero (suc k) (omega arith) (omega arith) in omega (arith, e, is, later))))
    (one_here v c sums ss k (rises_on s ss rise) (omega arith) is)
    ∙ more_second c (sums s) (sum_of_sums (map sums ss))

-- ---- all rows

none_all : (ss : List ℕ) → sum_of_sums (map (λ s. None) ss) ≡ None
none_all [] = refl
none_all (s ∷ ss) = none_all ss

module _ (class : Row → ℕ) (cell_in : Row → Cell) where
  abbrev sum_at : List Row → ℕ → Option ℤ
  sum_at rows s = total (map cell_in (filter (λ row. eqb (class row) s) rows))

  row_more : (r : Row) (rs : List Row) (ss : List ℕ) → map (λ s. total (map cell_in (filter (λ row. eqb (class row) s) (r ∷ rs)))) ss ≡ map (with_cell (class r) (cell_in r) (λ s. total (map cell_in (filter (λ row. eqb (class row) s) rs)))) ss
  row_more r rs [] = refl
  row_more r rs (s ∷ ss) = ap₂ (λ (a : Option ℤ) (l : List (Option ℤ)). a ∷ l) (by (eqb (class r) s)) (row_more r rs ss)
    where
      by : (b : Bool) → total (map cell_in (cond b (r ∷ filter (λ row. eqb (class row) s) rs) (filter (λ row. eqb (class row) s) rs)))
          ≡ cond b (plus (cell_in r) (total (map cell_in (filter (λ row. eqb (class row) s) rs)))) (total (map cell_in (filter (λ row. eqb (class row) s) rs)))
      by true = refl
      by false = refl

  pub sums_are : (ss : List ℕ) → Rises ss → (rows : List Row) → ((i : ℕ) → i < length rows → (k : ℕ) × (k < length ss) × (get_or ss k 0 ≡ class (get_or rows i [])))
      → sum_of_sums (map (λ s. total (map cell_in (filter (λ row. eqb (class row) s) rows))) ss) ≡ total (map cell_in rows)
  sums_are ss rise [] has = none_all ss
  sums_are ss rise (r ∷ rs) has =
      let here = has zero (omega arith) in
      ap sum_of_sums (row_more r rs ss)
      ∙ one_here (class r) (cell_in r) (λ s. total (map cell_in (filter (λ row. eqb (class row) s) rs))) ss here.0 rise here.1 here.2
      ∙ ap (plus (cell_in r)) (sums_are ss rise rs (λ i low. has (suc i) (omega arith)))

pub sums-of-buckets : SumsOfBuckets
sums-of-buckets spec col e r rs strides order high =
    let rows : List Row = r ∷ rs in
    let first = time_of col r in
    let align = align_of spec.offset first in
    let times = map (time_of col) rows in
    let are = times_are col rows order high spec.offset in
    let some : 0 < length (map (time_of col) (r ∷ rs)) = omega (arith, length-map rows (time_of col)) in
    let whole = starts_are spec align times strides are some in
    let last_is = last_time col r rs in
    ap (λ (last : ℕ). sum_of_sums (map (λ start. total (values e (in_bucket spec.stride align col start rows))) (starts spec.stride align first last))) last_is
    ∙ sums_are (λ row. bucket_start spec.stride align (time_of col row)) (value e) (starts_of spec align times) whole.rise rows
    (λ i low. let found = whole.has i (omega (arith, low, length-map rows (time_of col))) in (found.0, found.1, found.2 ∙ ap (bucket_start spec.stride align) (get_or-map (time_of col) rows i [] 0 low)))
