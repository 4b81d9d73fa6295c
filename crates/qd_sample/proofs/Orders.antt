-- Times that stand in order, and the rows that have them.
use Rattle.std.proofs.Common.{◌≡◌, ℕ, zero, suc, ◌+◌, ◌<◌, ◌≤◌, List, [], ◌∷◌, length, map, get_or, slice_index, ap, ◌∙◌, arith, inl, inr, All}
use Rattle.std.proofs.lemmas.Bool.{cases_lt}
use Rattle.std.proofs.lemmas.List.{get_or-map, get_or_default, length-map}
use Rattle.std.proofs.lemmas.List.Elements.{recursion_from_All}
use Rattle.qd_base.specs.declared.limits.TheConstants.{MAX_TIME}
use Rattle.qd_base.specs.Laws.{IsInOrder}
use Rattle.qd_base.specs.Rows.{Row, time_of}

-- the first times stand in order, up to the last one of them
pub record OrderedTo (times : List ℕ) (i last : ℕ) : Type 0 where
  pub rise : (a b : ℕ) → a ≤ b → b < i → slice_index times a ≤ slice_index times b
  pub high : (a : ℕ) → a < i → slice_index times a ≤ MAX_TIME
  pub below : (a : ℕ) → a < i → slice_index times a ≤ last

pub ordered_none : (times : List ℕ) → OrderedTo times 0 0
ordered_none times = record { rise = λ a b le low. absurd (omega arith); high = λ a low. absurd (omega arith); below = λ a low. absurd (omega arith) }

pub ordered_more : (times : List ℕ) (i last time : ℕ) → OrderedTo times i last → time ≡ slice_index times i → last ≤ time → time ≤ MAX_TIME → OrderedTo times (i + 1) time
ordered_more times i last time are is later high = record {
  rise = λ a b le low. elim (cases_lt b i) [
    | inl early ↦ are.rise a b le early
    | inr late ↦ (let same : i ≡ b = omega arith in elim (cases_lt a i) [
      | inl before ↦ omega (arith, are.below a before, later, is, ap (slice_index times) same)
      | inr now ↦ (let here : a ≡ b = omega arith in omega (arith, ap (slice_index times) here))
    ])
  ];
  high = λ a low. elim (cases_lt a i) [
    | inl early ↦ are.high a early
    | inr late ↦ (let same : i ≡ a = omega arith in omega (arith, high, is, ap (slice_index times) same))
  ];
  below = λ a low. elim (cases_lt a i) [
    | inl early ↦ omega (arith, are.below a early, later)
    | inr late ↦ (let same : i ≡ a = omega arith in omega (arith, is, ap (slice_index times) same))
  ];
}

-- rows whose times stand in order
pub rows_in_order : (col : ℕ) (rows : List Row) → ((i j : ℕ) → i ≤ j → j < length rows → time_of col (get_or rows i []) ≤ time_of col (get_or rows j [])) → IsInOrder col rows
rows_in_order col [] rise = tt
rows_in_order col (r ∷ rs) rise = (
  recursion_from_All (λ (x : Row). time_of col r ≤ time_of col x) rs
      (λ k d low. let up = rise zero (suc k) (omega arith) (omega arith) in omega (arith, up, ap (time_of col) (get_or_default rs k d [] low))),
  rows_in_order col rs (λ i j le low. rise (suc i) (suc j) (omega arith) (omega arith)),
)

module _ (col : ℕ) (rows : List Row) (times : List ℕ) (is : times ≡ map (time_of col) rows) where
  size : length times ≡ length rows
  size = ap length is ∙ length-map rows (time_of col)

  at : (i : ℕ) → i < length rows → slice_index times i ≡ time_of col (get_or rows i [])
  at i low = ap (λ (l : List ℕ). slice_index l i) is ∙ get_or-map (time_of col) rows i [] 0 low

  pub times_in_order : ((i j : ℕ) → i ≤ j → j < length times → slice_index times i ≤ slice_index times j) → IsInOrder col rows
  times_in_order rise = rows_in_order col rows (λ i j le low. omega (arith, rise i j le (omega (arith, low, size)), at i (omega (arith, low, le)), at j low))

  pub times_high : ((i : ℕ) → i < length times → slice_index times i ≤ MAX_TIME) → All (λ row. time_of col row ≤ MAX_TIME) rows
  times_high high = λ k d low. omega (arith, high k (omega (arith, low, size)), at k low, ap (time_of col) (get_or_default rows k d [] low))
