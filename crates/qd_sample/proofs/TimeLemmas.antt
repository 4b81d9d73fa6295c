-- The times of rows that stand in order of time.
use Rattle.std.proofs.Common.{◌≡◌, ◌∙◌, ℕ, zero, suc, ◌-◌, ◌<◌, ◌≤◌, List, [], ◌∷◌, length, map, get_or, refl, sym, ap, arith, All, ℤ, Option, Some, None}
use Rattle.std.proofs.lemmas.List.{get_or-map, length-map}
use Rattle.std.proofs.lemmas.List.Elements.{All-from_recursion}
use Rattle.qd_base.specs.declared.limits.TheConstants.{MAX_TIME}
use Rattle.qd_base.specs.Laws.{IsInOrder}
use Rattle.qd_base.specs.Rows.{Row, time_of}
use Rattle.qd_meaning.specs.Joined.{last_or}
use Rattle.qd_meaning.specs.declared.parts.SampleSpec.{SampleSpec}
use Rattle.qd_meaning.specs.Sampled.{align_of, sampled, sampled_over, starts}
use Rattle.qd_time.specs.Buckets.{IsAlign, IsReached}
use Rattle.qd_rows.specs.Sets.{ResultRows, rows_in}
use Rattle.qd_group.proofs.Assembly.{length_rows}
use Rattle.qd_sample.specs.Sampling.{starts_of, IsOffset}
use Rattle.qd_sample.specs.Starts.{AreTimes}

order_at : (col : ℕ) (rows : List Row) → IsInOrder col rows → (i j : ℕ) → i ≤ j → j < length rows → time_of col (get_or rows i []) ≤ time_of col (get_or rows j [])
order_at col [] is i j le low = absurd (omega arith)
order_at col (r ∷ rs) (first, rest) zero zero le low = omega arith
order_at col (r ∷ rs) (first, rest) zero (suc j) le low = All-from_recursion (λ x. time_of col r ≤ time_of col x) rs first j [] (omega arith)
order_at col (r ∷ rs) (first, rest) (suc i) zero le low = absurd (omega arith)
order_at col (r ∷ rs) (first, rest) (suc i) (suc j) le low = order_at col rs rest i j (omega arith) (omega arith)

module _ (col : ℕ) (rows : List Row) (order : IsInOrder col rows) (high : All (λ row. time_of col row ≤ MAX_TIME) rows) where
  time_is : (i : ℕ) → i < length rows → get_or (map (time_of col) rows) i 0 ≡ time_of col (get_or rows i [])
  time_is i low = get_or-map (time_of col) rows i [] 0 low

  pub rises : (i j : ℕ) → i ≤ j → j < length (map (time_of col) rows) → get_or (map (time_of col) rows) i 0 ≤ get_or (map (time_of col) rows) j 0
  rises i j le low =
      let size = length-map rows (time_of col) in
      omega (arith, order_at col rows order i j le (omega (arith, low, size)), time_is i (omega (arith, low, size, le)), time_is j (omega (arith, low, size)))

  pub highs : (i : ℕ) → i < length (map (time_of col) rows) → get_or (map (time_of col) rows) i 0 ≤ MAX_TIME
  highs i low =
      let there : i < length rows = omega (arith, low, length-map rows (time_of col)) in
      omega (arith, high i [] there, time_is i there)

  reached : (offset : Option ℤ) (i : ℕ) → i < length (map (time_of col) rows) → IsReached (align_of offset (get_or (map (time_of col) rows) 0 0)) (get_or (map (time_of col) rows) i 0)
  reached None i low = rises 0 i (omega arith) low
  reached (Some minutes) i low = tt

  pub times_are : (offset : Option ℤ) → AreTimes (align_of offset (get_or (map (time_of col) rows) 0 0)) (map (time_of col) rows)
  times_are offset = record { high = highs; reached = reached offset; rise = rises }

pub align_is : (offset : Option ℤ) (first : ℕ) → first ≤ MAX_TIME → IsOffset offset → IsAlign (align_of offset first)
align_is None first high is = high
align_is (Some minutes) first high is = is

-- the last time is that of the last row
pub last_time : (col : ℕ) (r : Row) (rs : List Row) → time_of col (last_or r rs) ≡ get_or (map (time_of col) (r ∷ rs)) (length (map (time_of col) (r ∷ rs)) - 1) 0
last_time col r [] = refl
last_time col r (x ∷ xs) =
    last_time col x xs
    ∙ ap (λ k. get_or (map (time_of col) (r ∷ x ∷ xs)) k 0) (later (length (map (time_of col) xs)))
  where
    later : (n : ℕ) → suc (suc n - 1) ≡ suc (suc n) - 1
    later n = omega arith

-- what is sampled, over the starts from the first time to the last
pub sampled_is : (spec : SampleSpec) (col : ℕ) (rows : List Row) (times : List ℕ) → 0 < length rows → times ≡ map (time_of col) rows
    → sampled spec col rows ≡ sampled_over spec (align_of spec.offset (get_or times 0 0)) col (starts_of spec (align_of spec.offset (get_or times 0 0)) times) rows
sampled_is spec col [] times some is = absurd (omega arith)
sampled_is spec col (r ∷ rs) times some is =
    let align = align_of spec.offset (time_of col r) in
    ap (λ (last : ℕ). sampled_over spec align col (starts spec.stride align (time_of col r) last) (r ∷ rs)) (last_time col r rs)
    ∙ ap (λ (ts : List ℕ). sampled_over spec (align_of spec.offset (get_or ts 0 0)) col (starts_of spec (align_of spec.offset (get_or ts 0 0)) ts) (r ∷ rs)) (sym is)

pub no_rows : (spec : SampleSpec) (col : ℕ) (s : ResultRows) → length s.places ≡ 0 → sampled spec col (rows_in s) ≡ []
no_rows spec col s none = by (rows_in s) (length_rows s ∙ none)
  where
    by : (rows : List Row) → length rows ≡ 0 → sampled spec col rows ≡ []
    by [] e = refl
    by (r ∷ rs) e = absurd (omega (arith, e))
