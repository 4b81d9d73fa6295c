-- The numbers of times among the starts of buckets.
use Rattle.std.proofs.Common.{◌≡◌, ℕ, ◌+◌, ◌<◌, ◌≤◌, List, [], ◌∷◌, ◌++◌, length, slice_index, refl, sym, ap, ◌∙◌, subst, arith, inl, inr}
use Rattle.std.proofs.lemmas.Bool.{cases_lt}
use Rattle.std.proofs.lemmas.List.{get_or_append_left, get_or_push, length-append}
use Rattle.qd_sample.specs.Starts.{AreNumbers}

-- the numbers of the first times, and the start from which on to look for the next ones
pub record NumbersTo (times starts : List ℕ) (i : ℕ) (numbers : List ℕ) (current : ℕ) : Type 0 where
  pub count : length numbers ≡ i
  pub below : (j : ℕ) → j < i → slice_index numbers j < length starts
  pub reached : (j : ℕ) → j < i → slice_index starts (slice_index numbers j) ≤ slice_index times j
  pub last : (j : ℕ) → j < i → slice_index numbers j + 1 < length starts → slice_index times j < slice_index starts (slice_index numbers j + 1)
  pub there : current < length starts
  pub ahead : (j : ℕ) → i ≤ j → j < length times → slice_index starts current ≤ slice_index times j

pub numbers_none : (times starts : List ℕ) → 0 < length starts → ((j : ℕ) → j < length times → slice_index starts 0 ≤ slice_index times j) → NumbersTo times starts 0 [] 0
numbers_none times starts some first = record { count = refl; below = λ j low. absurd (omega arith); reached = λ j low. absurd (omega arith); last = λ j low. absurd (omega arith); there = some; ahead = λ j low there. first j there }

pub numbers_more : (times starts : List ℕ) (i : ℕ) (numbers more : List ℕ) (current next time : ℕ) → ((a b : ℕ) → a ≤ b → b < length times → slice_index times a ≤ slice_index times b) → i < length times → time ≡ slice_index times i
    → NumbersTo times starts i numbers current → next < length starts → slice_index starts next ≤ time → (next + 1 < length starts → time < slice_index starts (next + 1)) → more ≡ numbers ++ next ∷ [] → NumbersTo times starts (i + 1) more next
numbers_more times starts i numbers more current next time rise low is before there reached last whole = record {
  count = omega (arith, ap length whole, length-append numbers (next ∷ []), before.count);
  below = λ j lt. elim (cases_lt j i) [ inl early ↦ omega (arith, old j early, before.below j early) | inr late ↦ omega (arith, new j (omega arith)) ];
  reached = λ j lt. elim (cases_lt j i) [
    | inl early ↦ subst (λ (n : ℕ). slice_index starts n ≤ slice_index times j) (sym (old j early)) (before.reached j early)
    | inr late ↦ (let same : i ≡ j = omega arith in subst (λ (n : ℕ). slice_index starts n ≤ slice_index times j) (sym (new j (sym same))) (omega (arith, is, ap (λ k. slice_index times k) same)))
  ];
  last = λ j lt. elim (cases_lt j i) [
    | inl early ↦ subst (λ (n : ℕ). n + 1 < length starts → slice_index times j < slice_index starts (n + 1)) (sym (old j early)) (before.last j early)
    | inr late ↦ (let same : i ≡ j = omega arith in subst (λ (n : ℕ). n + 1 < length starts → slice_index times j < slice_index starts (n + 1)) (sym (new j (sym same))) (λ more_there. let l = last more_there in omega (arith, is, ap (λ k. slice_index times k) same)))
  ];
  there = there;
  ahead = λ j late within. let up = rise i j (omega arith) within in omega (arith, is);
}
  where
    old : (j : ℕ) → j < i → slice_index more j ≡ slice_index numbers j
    old j early = ap (λ (l : List ℕ). slice_index l j) whole ∙ get_or_append_left numbers (next ∷ []) 0 j (omega (arith, before.count))

    new : (j : ℕ) → j ≡ i → slice_index more j ≡ next
    new j same = ap (λ (l : List ℕ). slice_index l j) whole ∙ get_or_push numbers next 0 j (before.count ∙ sym same)

pub numbers_all : (times starts : List ℕ) (i : ℕ) (numbers : List ℕ) (current : ℕ) → length times ≡ i → NumbersTo times starts i numbers current → AreNumbers times starts numbers
numbers_all times starts i numbers current all are = record {
  count = are.count ∙ sym all;
  below = λ j low. are.below j (omega arith);
  reached = λ j low. are.reached j (omega arith);
  last = λ j low. are.last j (omega arith);
}
