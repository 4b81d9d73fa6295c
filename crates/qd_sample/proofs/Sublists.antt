-- Lists dealt by classes have as many items, and a walk over the starts that have a time is one over all of them.
use Rattle.std.proofs.Common.{◌≡◌, ℕ, zero, suc, ◌+◌, ◌<◌, ◌≤◌, cond, eqb, List, [], ◌∷◌, ◌++◌, length, filter, get_or, refl, sym, ap, ap₂, arith, inl, inr, All}
use Rattle.std.specs.List.{flat_map, range_with_len}
use Rattle.std.proofs.lemmas.Bool.{cases_eq, eq-eqb, ne_eqb}
use Rattle.std.proofs.lemmas.List.{length-append}
use Rattle.std.proofs.lemmas.List.Elements.{All-head, All-tail}
use Rattle.qd_sample.proofs.Lists.{flat_none}

-- ---- how many items are dealt

-- an item more in each list whose class isn't among these
none_more : (v x : ℕ) (F : ℕ → List ℕ) (a n : ℕ) → v < a → length (flat_map (λ c. cond (eqb v c) (x ∷ F c) (F c)) (range_with_len a n)) ≡ length (flat_map F (range_with_len a n))
none_more v x F a zero before = refl
none_more v x F a (suc n) before =
    omega (
      arith,
      length-append (cond (eqb v a) (x ∷ F a) (F a)) (flat_map (λ c. cond (eqb v c) (x ∷ F c) (F c)) (range_with_len (a + 1) n)),
      length-append (F a) (flat_map F (range_with_len (a + 1) n)),
      ap (λ b. length (cond b (x ∷ F a) (F a))) (ne_eqb v a (λ e. omega arith)),
      none_more v x F (a + 1) n (omega arith),
    )

one_more : (v x : ℕ) (F : ℕ → List ℕ) (a n : ℕ) → a ≤ v → v < a + n → length (flat_map (λ c. cond (eqb v c) (x ∷ F c) (F c)) (range_with_len a n)) ≡ length (flat_map F (range_with_len a n)) + 1
one_more v x F a zero low high = absurd (omega arith)
one_more v x F a (suc n) low high = elim (cases_eq v a) [
  | inl here ↦
      omega (
        arith,
        length-append (cond (eqb v a) (x ∷ F a) (F a)) (flat_map (λ c. cond (eqb v c) (x ∷ F c) (F c)) (range_with_len (a + 1) n)),
        length-append (F a) (flat_map F (range_with_len (a + 1) n)),
        ap (λ b. length (cond b (x ∷ F a) (F a))) (eq-eqb v a here),
        none_more v x F (a + 1) n (omega arith),
      )
  | inr other ↦
      omega (
        arith,
        length-append (cond (eqb v a) (x ∷ F a) (F a)) (flat_map (λ c. cond (eqb v c) (x ∷ F c) (F c)) (range_with_len (a + 1) n)),
        length-append (F a) (flat_map F (range_with_len (a + 1) n)),
        ap (λ b. length (cond b (x ∷ F a) (F a))) (ne_eqb v a other),
        one_more v x F (a + 1) n (omega arith) (omega arith),
      )
]

pub dealt_length : (classes items : List ℕ) (count : ℕ) → All (λ x. get_or classes x 0 < count) items → length (flat_map (λ c. filter (λ x. eqb (get_or classes x 0) c) items) (range_with_len 0 count)) ≡ length items
dealt_length classes [] count low = ap length (flat_none (λ c. filter (λ x. eqb (get_or classes x 0) c) []) (λ c. refl) (range_with_len 0 count))
dealt_length classes (x ∷ xs) count low =
    let here = All-head (λ y. get_or classes y 0 < count) x xs low in
    omega (
      arith,
      one_more (get_or classes x 0) x (λ c. filter (λ y. eqb (get_or classes y 0) c) xs) 0 count (omega arith) (omega (arith, here)),
      dealt_length classes xs count (All-tail (λ y. get_or classes y 0 < count) x xs low),
    )

-- ---- a part of a list that rises

abbrev pub Rises : List ℕ → Type 0
Rises xs = (a b : ℕ) → a < b → b < length xs → get_or xs a 0 < get_or xs b 0

abbrev pub Lacks : List ℕ → ℕ → Type 0
Lacks xs x = (k : ℕ) → k < length xs → get_or xs k 0 ≡ x → ⊥

rises_tail : (x : ℕ) (xs : List ℕ) → Rises (x ∷ xs) → Rises xs
rises_tail x xs rise a b less low = rise (suc a) (suc b) (omega arith) (omega arith)

-- a walk over the part is one over the whole, where the rest gives nothing
pub flat_part : {Y : Type 0} (F : ℕ → List Y) (whole part : List ℕ) → Rises whole → Rises part → ((k : ℕ) → k < length part → (j : ℕ) × (j < length whole) × (get_or whole j 0 ≡ get_or part k 0))
    → ((j : ℕ) → j < length whole → Lacks part (get_or whole j 0) → F (get_or whole j 0) ≡ []) → flat_map F whole ≡ flat_map F part
flat_part F [] [] wr pr there none = refl
flat_part F [] (y ∷ ys) wr pr there none = absurd (let found = there zero (omega arith) in omega (arith, found.1))
flat_part F (x ∷ xs) [] wr pr there none =
    ap₂ (λ a b. a ++ b) (none zero (omega arith) (λ k low e. omega arith)) (flat_part F xs [] (rises_tail x xs wr) pr (λ k low. absurd (omega arith)) (λ j low lacks. none (suc j) (omega arith) lacks))
flat_part F (x ∷ xs) (y ∷ ys) wr pr there none = elim (cases_eq x y) [
  | inl same ↦
      ap₂ (λ a b. a ++ b) (ap F same)
      (flat_part F xs ys (rises_tail x xs wr) (rises_tail y ys pr)
      (λ k low. inner_found k low (there (suc k) (omega arith)) (pr zero (suc k) (omega arith) (omega arith)) same)
      (λ j low lacks. none (suc j) (omega arith) (λ k k_low e. unlike j k k_low e lacks (wr zero (suc j) (omega arith) (omega arith)) same)))
  | inr other ↦
      ap₂ (λ a b. a ++ b) (none zero (omega arith) (first_lacks (first_less (there zero (omega arith)) other)))
      (flat_part F xs (y ∷ ys) (rises_tail x xs wr) pr
      (λ k low. later_found k low (there k low) (first_less (there zero (omega arith)) other))
      (λ j low lacks. none (suc j) (omega arith) lacks))
]
  where
    inner_found : (k : ℕ) → k < length ys → ((j : ℕ) × (j < length (x ∷ xs)) × (get_or (x ∷ xs) j 0 ≡ get_or ys k 0)) → y < get_or ys k 0 → x ≡ y → (j : ℕ) × (j < length xs) × (get_or xs j 0 ≡ get_or ys k 0)
    inner_found k low (zero, at, is) more same = absurd (omega (arith, is, more, same))
    inner_found k low (suc j, at, is) more same = (j, omega (arith, at), is)

    -- the first of both is less than what comes later
    unlike : (j k : ℕ) → k < length (y ∷ ys) → get_or (y ∷ ys) k 0 ≡ get_or xs j 0 → Lacks ys (get_or xs j 0) → x < get_or xs j 0 → x ≡ y → ⊥
    unlike j zero low e lacks more same = omega (arith, e, more, same)
    unlike j (suc k) low e lacks more same = lacks k (omega arith) e

    -- a first that isn't the part's is less than all of the part
    first_less : ((j : ℕ) × (j < length (x ∷ xs)) × (get_or (x ∷ xs) j 0 ≡ y)) → (x ≡ y → ⊥) → x < y
    first_less (zero, at, is) other = absurd (other is)
    first_less (suc j, at, is) other = omega (arith, is, wr zero (suc j) (omega arith) (omega (arith, at)))

    first_lacks : x < y → (k : ℕ) → k < length (y ∷ ys) → get_or (y ∷ ys) k 0 ≡ x → ⊥
    first_lacks less zero low e = omega (arith, e)
    first_lacks less (suc k) low e = omega (arith, e, pr zero (suc k) (omega arith) low)

    later_found : (k : ℕ) → k < length (y ∷ ys) → ((j : ℕ) × (j < length (x ∷ xs)) × (get_or (x ∷ xs) j 0 ≡ get_or (y ∷ ys) k 0)) → x < y → (j : ℕ) × (j < length xs) × (get_or xs j 0 ≡ get_or (y ∷ ys) k 0)
    later_found k low (zero, at, is) less = absurd (first_lacks less k low (sym is))
    later_found k low (suc j, at, is) less = (j, omega (arith, at), is)
