-- A walk of numbers that rise, each the next of the one before, up to a last one.
use Rattle.std.proofs.Common.{◌≡◌, ℕ, zero, suc, ◌+◌, ◌-◌, ◌<◌, ◌≤◌, true, false, cond, [], ◌∷◌, ◌++◌, length, filter, get_or, refl, ap, ap₂, ◌∙◌, arith, add-one, inl, inr}
use Rattle.std.specs.Prelude.{nat_le}
use Rattle.std.proofs.lemmas.Bool.{cases_lt}
use Rattle.std.proofs.lemmas.Bool.Decides.{nat_tests}
use Rattle.std.proofs.lemmas.List.{append-nil, length-append}
use Rattle.std.proofs.lemmas.List.Elements.{filter-append}
use Rattle.qd_meaning.specs.Sampled.{iterated}
use Rattle.qd_sample.proofs.Lists.{filter_none}

abbrev pub nth : (ℕ → ℕ) → ℕ → ℕ → ℕ
nth next zero s = s
nth next (suc n) s = nth next n (next s)

pub nth_suc : (next : ℕ → ℕ) (k s : ℕ) → nth next (suc k) s ≡ next (nth next k s)
nth_suc next zero s = refl
nth_suc next (suc k) s = nth_suc next k (next s)

pub nth_next : (next : ℕ → ℕ) (k s : ℕ) → nth next (k + 1) s ≡ next (nth next k s)
nth_next next k s = ap (λ n. nth next n s) (add-one k) ∙ nth_suc next k s

pub length-iterated : (next : ℕ → ℕ) (n s : ℕ) → length (iterated next n s) ≡ n
length-iterated next zero s = refl
length-iterated next (suc n) s = ap (λ k. suc k) (length-iterated next n (next s))

pub get_or-iterated : (next : ℕ → ℕ) (n k s d : ℕ) → k < n → get_or (iterated next n s) k d ≡ nth next k s
get_or-iterated next zero k s d low = absurd (omega arith)
get_or-iterated next (suc n) zero s d low = refl
get_or-iterated next (suc n) (suc k) s d low = get_or-iterated next n k (next s) d (omega arith)

iterated_split : (next : ℕ → ℕ) (k m s : ℕ) → iterated next (k + m) s ≡ iterated next k s ++ iterated next m (nth next k s)
iterated_split next zero m s =
    let none : zero + m ≡ m = omega arith in
    ap (λ n. iterated next n s) none
iterated_split next (suc k) m s =
    let there : suc k + m ≡ suc (k + m) = omega arith in
    ap (λ n. iterated next n s) there ∙ ap (λ l. s ∷ l) (iterated_split next k m (next s))

pub iterated_more : (next : ℕ → ℕ) (k s : ℕ) → iterated next (k + 1) s ≡ iterated next k s ++ nth next k s ∷ []
iterated_more next k s = iterated_split next k 1 s

module _ (next : ℕ → ℕ) (grows : (x : ℕ) → x < next x) where
  pub nth_rises : (s j k : ℕ) → j < k → nth next j s < nth next k s
  nth_rises s j zero less = absurd (omega arith)
  nth_rises s j (suc k) less =
      let step = grows (nth next k s) in
      let there = nth_suc next k s in
      elim (cases_lt j k) [
        | inl early ↦ omega (arith, nth_rises s j k early, step, there)
        | inr late ↦ (let same : j ≡ k = omega arith in omega (arith, step, there, ap (λ n. nth next n s) same))
      ]

  pub nth_later : (s j k : ℕ) → j ≤ k → nth next j s ≤ nth next k s
  nth_later s j k le = elim (cases_lt j k) [
    | inl less ↦ omega (arith, nth_rises s j k less)
    | inr more ↦ (let same : j ≡ k = omega arith in omega (arith, ap (λ n. nth next n s) same))
  ]

  module _ (last : ℕ) where
    all_pass : (k s : ℕ) → ((j : ℕ) → j < k → nth next j s ≤ last) → filter (λ x. nat_le x last) (iterated next k s) ≡ iterated next k s
    all_pass zero s low = refl
    all_pass (suc k) s low =
        let here = low zero (omega arith) in
        let pass : nat_le s last ≡ true = grind (arith, nat_tests) in
        ap (λ b. cond b (s ∷ filter (λ x. nat_le x last) (iterated next k (next s))) (filter (λ x. nat_le x last) (iterated next k (next s)))) pass ∙ ap (λ l. s ∷ l) (all_pass k (next s) (λ j lt. low (suc j) (omega arith)))

    none_pass : (k s : ℕ) → last < s → filter (λ x. nat_le x last) (iterated next k s) ≡ []
    none_pass k s past =
        filter_none (λ x. nat_le x last) (iterated next k s) 0 (λ i low. fails (get_or (iterated next k s) i 0) (omega (arith, get_or-iterated next k i s 0 (omega (arith, length-iterated next k s)), nth_later s 0 i (omega arith))))
      where
        fails : (x : ℕ) → last < x → nat_le x last ≡ false
        fails x more = grind (arith, nat_tests)

    -- a walk that is long enough to pass the last number ends where it passes it
    module _ (n s : ℕ) (far : last < nth next n s) where
      within : (k : ℕ) → ((j : ℕ) → j < k → nth next j s ≤ last) → k ≤ n
      within k low = elim (cases_lt n k) [ inl less ↦ absurd (omega (arith, low n less)) | inr le ↦ le ]

      whole : (k : ℕ) → k ≤ n → iterated next n s ≡ iterated next k s ++ iterated next (n - k) (nth next k s)
      whole k le = let sum : n ≡ k + (n - k) = omega arith in ap (λ m. iterated next m s) sum ∙ iterated_split next k (n - k) s

      pub ends : (k : ℕ) → ((j : ℕ) → j < k → nth next j s ≤ last) → last < nth next k s → filter (λ x. nat_le x last) (iterated next n s) ≡ iterated next k s
      ends k low past =
          ap (filter (λ x. nat_le x last)) (whole k (within k low))
          ∙ filter-append (λ x. nat_le x last) (iterated next k s) (iterated next (n - k) (nth next k s))
          ∙ ap₂ (λ a b. a ++ b) (all_pass k s low) (none_pass (n - k) (nth next k s) past)
          ∙ append-nil (iterated next k s)

      pub goes_on : (k : ℕ) → ((j : ℕ) → j < k → nth next j s ≤ last) → k ≤ length (filter (λ x. nat_le x last) (iterated next n s))
      goes_on k low =
          omega (
            arith,
            ap (λ l. length (filter (λ x. nat_le x last) l)) (whole k (within k low)),
            ap length (filter-append (λ x. nat_le x last) (iterated next k s) (iterated next (n - k) (nth next k s))),
            length-append (filter (λ x. nat_le x last) (iterated next k s)) (filter (λ x. nat_le x last) (iterated next (n - k) (nth next k s))),
            ap length (all_pass k s low),
            length-iterated next k s,
          )

    -- where it passes it
    pub cut : (n s : ℕ) → last < nth next n s → (k : ℕ) × ((j : ℕ) → j < k → nth next j s ≤ last) × (last < nth next k s)
    cut zero s far = (zero, (λ j low. absurd (omega arith)), far)
    cut (suc n) s far = elim (cases_lt last s) [
      | inl past ↦ (zero, (λ j low. absurd (omega arith)), past)
      | inr here ↦ (let later = cut n (next s) far in (suc later.0, (λ j low. early later.0 later.1 here j low), later.2))
    ]
      where
        early : (k : ℕ) → ((j : ℕ) → j < k → nth next j (next s) ≤ last) → s ≤ last → (j : ℕ) → j < suc k → nth next j s ≤ last
        early k low here zero lt = here
        early k low here (suc j) lt = low j (omega arith)
