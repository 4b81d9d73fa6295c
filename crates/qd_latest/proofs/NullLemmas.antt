-- The last NULL among cells, part by part.
use Rattle.std.proofs.Common.{◌≡◌, ℕ, ◌<◌, ◌≤◌, [], ◌∷◌, ◌++◌, List, Option, Some, None, length, refl, arith, subst, inl, inr}
use Rattle.std.proofs.lemmas.Bool.{cases_lt}
use Rattle.qd_base.specs.declared.cell.Cell.{Cell}
use Rattle.qd_base.specs.declared.cell.Cell.TheVariants as cell
use Rattle.qd_latest.specs.Walks.{cell_in, IsLastNull, KeepsAll, KeepsTexts}
use Rattle.qd_latest.proofs.WalkLemmas.{with_null, without_null}

module _ (cells : List Cell) where
  -- none of a part, nor behind it
  pub none_before : (from to n : ℕ) (found : Option ℕ) → IsLastNull cells from to found → ((i : ℕ) → found ≡ Some i → ⊥) → ((k : ℕ) → to ≤ k → k < n → cell_in cells k ≡ cell.Null → ⊥) → (k : ℕ) → from ≤ k → k < n → cell_in cells k ≡ cell.Null → ⊥
  none_before from to n None is not behind k low high null = elim (cases_lt k to) [ inl less ↦ is.none refl k low less null | inr late ↦ behind k late high null ]
  none_before from to n (Some i) is not behind k low high null = not i refl

  -- one of a part, and none behind it
  pub one_there : (from to n : ℕ) (found : Option ℕ) (i : ℕ) → to ≤ n → IsLastNull cells from to found → found ≡ Some i → ((k : ℕ) → to ≤ k → k < n → cell_in cells k ≡ cell.Null → ⊥) → IsLastNull cells 0 n (Some i)
  one_there from to n found i within is one behind = record {
    some = λ m e. let same : i ≡ m = cc in let h = is.some i one in subst (λ x. (0 ≤ x) × (x < n) × (cell_in cells x ≡ cell.Null) × ((k : ℕ) → x < k → k < n → cell_in cells k ≡ cell.Null → ⊥)) same
        (omega arith, omega (arith, h.1, within), h.2, λ k after high null. elim (cases_lt k to) [ inl less ↦ h.3 k after less null | inr late ↦ behind k late high null ]);
    none = λ e. cc;
  }

  pub none_there : (end n : ℕ) → end ≡ 0 → ((k : ℕ) → end ≤ k → k < n → cell_in cells k ≡ cell.Null → ⊥) → IsLastNull cells 0 n None
  none_there end n first none = record { some = λ i e. cc; none = λ e k low high null. none k (omega (arith, first)) high null }

-- NULL beside the last places of texts
module _ (cells : List Cell) (kept : List ℕ) (n : ℕ) (size : length cells ≡ n) (keeps : KeepsTexts cells kept) where
  pub null_lacking : (found : Option ℕ) → IsLastNull cells 0 n found → ((i : ℕ) → found ≡ Some i → ⊥) → KeepsAll cells kept
  null_lacking None is not = without_null cells kept keeps (λ k low high. is.none refl k low (omega (arith, high, size)))
  null_lacking (Some i) is not = absurd (not i refl)

  pub null_added : (found : Option ℕ) (i : ℕ) → IsLastNull cells 0 n found → found ≡ Some i → KeepsAll cells (kept ++ i ∷ [])
  null_added found i is one = let h = is.some i one in with_null cells kept keeps i (omega (arith, h.1, size)) h.2 (λ k after high. h.3 k after (omega (arith, high, size)))
