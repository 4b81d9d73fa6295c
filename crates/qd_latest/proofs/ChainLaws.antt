-- A chain has the places of the cells that hold its text, later ones first.
use Rattle.std.proofs.Common.{◌≡◌, ℕ, zero, suc, ◌+◌, ◌-◌, ◌<◌, ◌≤◌, Bool, true, false, cond, List, [], ◌∷◌, ◌++◌, length, get_or, refl, sym, ap, ◌∙◌, arith, subst, inl, inr, true≢false, length-append}
use Rattle.std.specs.Prelude.{Contains}
use Rattle.std.proofs.lemmas.Bool.{cases_lt}
use Rattle.std.proofs.lemmas.List.{get_or_append_left, get_or_push}
use Rattle.std.proofs.lemmas.List.Elements.{Contains-append_left, Contains-get_or, Contains-push, Contains-push_cases}
use Rattle.qd_base.specs.declared.cell.Cell.{Cell}
use Rattle.qd_base.specs.declared.cell.Cell.TheVariants as cell
use Rattle.qd_base.specs.Rows.{cell_eq}
use Rattle.qd_value.proofs.Orders.{cells-equal}
use Rattle.qd_latest.specs.Chains.{chain, latest_first}
use Rattle.qd_latest.specs.Laws.{ChainsAreLatestFirst}
use Rattle.qd_latest.specs.Walks.{cell_in}

module _ {X : Type 0} (test : X → Bool) (d : X) where
  -- a place that is listed is that of an item that passes
  pub record IsPass (at : ℕ) (xs : List X) (n : ℕ) : Type 0 where
    pub low : at ≤ n
    pub high : n < at + length xs
    pub passes : test (get_or xs (n - at) d) ≡ true

  later : (at : ℕ) (x : X) (xs : List X) (n : ℕ) → IsPass (suc at) xs n → IsPass at (x ∷ xs) n
  later at x xs n is = record {
    low = omega (arith, is.low);
    high = omega (arith, is.high);
    passes = let low = is.low in let e : n - at ≡ suc (n - suc at) = omega (arith, low) in ap (λ k. test (get_or (x ∷ xs) k d)) e ∙ is.passes;
  }

  pub listed_passes : (at : ℕ) (xs : List X) (n : ℕ) → Contains (latest_first test at xs) n → IsPass at xs n
  listed_passes at [] n has = absurd (omega (arith, has.1))
  listed_passes at (x ∷ xs) n has = by (test x) refl has (λ rest. listed_passes (suc at) xs n rest)
    where
      by : (b : Bool) → test x ≡ b → Contains (cond b (latest_first test (suc at) xs ++ at ∷ []) (latest_first test (suc at) xs)) n → (Contains (latest_first test (suc at) xs) n → IsPass (suc at) xs n) → IsPass at (x ∷ xs) n
      by true e has behind = elim (Contains-push_cases (latest_first test (suc at) xs) at n has) [
        | inl rest ↦ later at x xs n (behind rest)
        | inr same ↦ record {
          low = omega (arith, same);
          high = omega (arith, same);
          passes = let here : n - at ≡ 0 = omega (arith, same) in ap (λ k. test (get_or (x ∷ xs) k d)) here ∙ e;
        }
      ]
      by false e has behind = later at x xs n (behind has)

  -- and that of each such item is listed
  pub passes_listed : (at : ℕ) (xs : List X) (k : ℕ) → k < length xs → test (get_or xs k d) ≡ true → Contains (latest_first test at xs) (at + k)
  passes_listed at [] k low pass = absurd (omega (arith, low))
  passes_listed at (x ∷ xs) zero low pass = let e : at + 0 ≡ at = omega arith in subst (Contains (latest_first test at (x ∷ xs))) (sym e) (by (test x) refl)
    where
      by : (b : Bool) → test x ≡ b → Contains (cond b (latest_first test (suc at) xs ++ at ∷ []) (latest_first test (suc at) xs)) at
      by true e = Contains-push (latest_first test (suc at) xs) at
      by false e = absurd (true≢false (sym pass ∙ e))
  passes_listed at (x ∷ xs) (suc k) low pass = let e : suc at + k ≡ at + suc k = omega arith in subst (Contains (latest_first test at (x ∷ xs))) e (by (test x) (passes_listed (suc at) xs k (omega (arith, low)) pass))
    where
      by : (b : Bool) → Contains (latest_first test (suc at) xs) (suc at + k) → Contains (cond b (latest_first test (suc at) xs ++ at ∷ []) (latest_first test (suc at) xs)) (suc at + k)
      by true has = Contains-append_left (latest_first test (suc at) xs) (at ∷ []) (suc at + k) has
      by false has = has

  -- later places come first
  pub places_fall : (at : ℕ) (xs : List X) (i j : ℕ) → i < j → j < length (latest_first test at xs) → get_or (latest_first test at xs) j 0 < get_or (latest_first test at xs) i 0
  places_fall at [] i j less low = absurd (omega (arith, low))
  places_fall at (x ∷ xs) i j less low = by (test x) low (λ inner. places_fall (suc at) xs i j less inner)
    where
      above : (k : ℕ) → k < length (latest_first test (suc at) xs) → suc at ≤ get_or (latest_first test (suc at) xs) k 0
      above k fits = (listed_passes (suc at) xs (get_or (latest_first test (suc at) xs) k 0) (Contains-get_or (latest_first test (suc at) xs) k 0 fits)).low

      by : (b : Bool) → j < length (cond b (latest_first test (suc at) xs ++ at ∷ []) (latest_first test (suc at) xs))
          → (j < length (latest_first test (suc at) xs) → get_or (latest_first test (suc at) xs) j 0 < get_or (latest_first test (suc at) xs) i 0)
          → get_or (cond b (latest_first test (suc at) xs ++ at ∷ []) (latest_first test (suc at) xs)) j 0 < get_or (cond b (latest_first test (suc at) xs ++ at ∷ []) (latest_first test (suc at) xs)) i 0
      by false fits behind = behind fits
      by true fits behind =
          let size = length-append (latest_first test (suc at) xs) (at ∷ []) in
          let first : i < length (latest_first test (suc at) xs) = omega (arith, fits, size, less) in
          let there = get_or_append_left (latest_first test (suc at) xs) (at ∷ []) 0 i first in
          elim (cases_lt j (length (latest_first test (suc at) xs))) [
            | inl inner ↦ (let h = behind inner in let g = get_or_append_left (latest_first test (suc at) xs) (at ∷ []) 0 j inner in omega (arith, h, g, there))
            | inr outer ↦
                (let end : j ≡ length (latest_first test (suc at) xs) = omega (arith, outer, fits, size) in
                let last = get_or_push (latest_first test (suc at) xs) at 0 j (sym end) in
                let h = above i first in
                omega (arith, h, last, there))
          ]

same_cell : (a b : Cell) → cell_eq a b ≡ true → b ≡ a
same_cell a b e = sym ((cells-equal a b).0 e)

pub chains-are-latest-first : ChainsAreLatestFirst
chains-are-latest-first = record {
  has = λ cells text n has.
      let is = listed_passes (cell_eq (cell.Text text)) cell.Null 0 cells n has in
      let e : n - 0 ≡ n = omega arith in
      (omega (arith, is.high), ap (cell_in cells) (sym e) ∙ same_cell (cell.Text text) (cell_in cells (n - 0)) is.passes);
  all = λ cells text n low is.
      let e : 0 + n ≡ n = omega arith in
      subst (Contains (chain cells text)) e (passes_listed (cell_eq (cell.Text text)) cell.Null 0 cells n low ((cells-equal (cell.Text text) (cell_in cells n)).1 (sym is)));
  falls = λ cells text i j less low. places_fall (cell_eq (cell.Text text)) cell.Null 0 cells i j less low;
}
