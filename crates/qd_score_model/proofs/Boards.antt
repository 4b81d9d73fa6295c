-- Who holds the lock, which versions are live after one changed, and pins after one more or less.
use Rattle.std.proofs.Common.{◌≡◌, ◌≢◌, ◌⊎◌, ℕ, zero, suc, ◌+◌, ◌-◌, ◌<◌, Bool, true, false, cond, ◌&&◌, List, [], ◌∷◌, length, set, Some, None, refl, sym, ap, ◌∙◌, inl, inr, ⊎_elim, arith, eqb}
use Rattle.std.specs.Prelude.{◌==◌, if◌then◌else◌, Option}
use Rattle.std.proofs.lemmas.Bool.Decides.{eqb_tells}
use Rattle.std.proofs.lemmas.List.{get_or-set_same, get_or-set_other}
use Rattle.qd_score_model.specs.declared.view.Place.{Place}
use Rattle.qd_score_model.specs.declared.view.Version.{Version}
use Rattle.qd_score_model.specs.Machine.{Board, version_at, sight, seen_by, hold_of, put_at, same_place}

pub test_same : (a b : ℕ) → a ≡ b → (a == b) ≡ true
test_same a b e = ⊎_elim (λ (t : (eqb a b ≡ true) × (a ≡ b)). t.0) (λ (t : (eqb a b ≡ false) × (a ≢ b)). absurd (t.1 e)) (eqb_tells a b)

pub test_other : (a b : ℕ) → a ≢ b → (a == b) ≡ false
test_other a b ne = ⊎_elim (λ (t : (eqb a b ≡ true) × (a ≡ b)). absurd (ne t.1)) (λ (t : (eqb a b ≡ false) × (a ≢ b)). t.0) (eqb_tells a b)

pub same_of_test : (a b : ℕ) → (a == b) ≡ true → a ≡ b
same_of_test a b e = ⊎_elim (λ (t : (eqb a b ≡ true) × (a ≡ b)). t.1) (λ (t : (eqb a b ≡ false) × (a ≢ b)). absurd (cc)) (eqb_tells a b)

module _ {I S : Type 0} where
  pub hold_none : (b : Board I S) (j : ℕ) → b.holder ≡ None → hold_of b j ≡ None
  hold_none b j e = ap (seen_by (sight b) j) e

  pub hold_own : (b : Board I S) (j : ℕ) → b.holder ≡ Some j → hold_of b j ≡ Some (sight b)
  hold_own b j e = ap (seen_by (sight b) j) e ∙ ap (λ t. if t then Some (sight b) else None) (test_same j j refl)

  pub hold_other : (b : Board I S) (seat j : ℕ) → j ≢ seat → b.holder ≡ Some seat → hold_of b j ≡ None
  hold_other b seat j ne e = ap (seen_by (sight b) j) e ∙ ap (λ t. if t then Some (sight b) else None) (test_other j seat ne)

-- the value at the row that was changed, and at another
pub put_same : {A : Type 0} (f : ℕ → A) (row r : ℕ) (x : A) → r ≡ row → put_at f row x r ≡ x
put_same f row r x e = ap (λ t. if t then x else f r) (test_same r row e)

pub put_other : {A : Type 0} (f : ℕ → A) (row r : ℕ) (x : A) → r ≢ row → put_at f row x r ≡ f r
put_other f row r x ne = ap (λ t. if t then x else f r) (test_other r row ne)

-- a row is the changed one or another
pub same_or_other : (r row : ℕ) → (r ≡ row) ⊎ (r ≢ row)
same_or_other r row = ⊎_elim (λ (t : (eqb r row ≡ true) × (r ≡ row)). inl t.1) (λ (t : (eqb r row ≡ false) × (r ≢ row)). inr t.1) (eqb_tells r row)

module _ {S : Type 0} where
  pub version_here : (vs : List (Option (Version S))) (row : ℕ) (x : Option (Version S)) → row < length vs → version_at (set vs row x) row ≡ x
  version_here vs row x lt = get_or-set_same vs row x None lt

  pub version_else : (vs : List (Option (Version S))) (row r : ℕ) (x : Option (Version S)) → r ≢ row → version_at (set vs row x) r ≡ version_at vs r
  version_else vs row r x ne = get_or-set_other vs row r x None ne

  -- what is live after a row went live
  pub live_now : (vs : List (Option (Version S))) (row : ℕ) (x : Version S) → row < length vs → (r : ℕ) (y : Version S) → version_at (set vs row (Some x)) r ≡ Some y → ((r ≡ row) × (x ≡ y)) ⊎ ((r ≢ row) × (version_at vs r ≡ Some y))
  live_now vs row x lt r y e = ⊎_elim (λ (same : r ≡ row). let h = version_here vs row (Some x) lt in let g : version_at (set vs row (Some x)) row ≡ Some y = ap (version_at (set vs row (Some x))) (sym same) ∙ e in inl (same, cc)) (λ (ne : r ≢ row). inr (ne, sym (version_else vs row r (Some x) ne) ∙ e)) (same_or_other r row)

  -- what is live after a row was retired
  pub live_still : (vs : List (Option (Version S))) (row : ℕ) → row < length vs → (r : ℕ) (y : Version S) → version_at (set vs row None) r ≡ Some y → (r ≢ row) × (version_at vs r ≡ Some y)
  live_still vs row lt r y e = ⊎_elim (λ (same : r ≡ row). let h = version_here vs row None lt in let g : version_at (set vs row None) row ≡ Some y = ap (version_at (set vs row None)) (sym same) ∙ e in absurd (cc)) (λ (ne : r ≢ row). (ne, sym (version_else vs row r None ne) ∙ e)) (same_or_other r row)

  pub below_rows : (vs : List (Option (Version S))) (r : ℕ) (y : Version S) → version_at vs r ≡ Some y → r < length vs
  below_rows [] r y e = absurd (cc)
  below_rows (x ∷ xs) zero y e = omega arith
  below_rows (x ∷ xs) (suc r) y e = let h = below_rows xs r y e in omega arith

pub same_place_is : (a b : Place) → same_place a b ≡ true → (a.n ≡ b.n) × (a.row ≡ b.row)
same_place_is a b e = both (a.n == b.n) (a.row == b.row) (same_of_test a.n b.n) (same_of_test a.row b.row) e
  where
    both : (x y : Bool) → (x ≡ true → a.n ≡ b.n) → (y ≡ true → a.row ≡ b.row) → (x && y) ≡ true → (a.n ≡ b.n) × (a.row ≡ b.row)
    both true true f g h = (f refl, g refl)
    both true false f g h = absurd (cc)
    both false true f g h = absurd (cc)
    both false false f g h = absurd (cc)

-- one where the row is this one
abbrev pub one_at : ℕ → ℕ → ℕ
one_at row r = cond (row == r) 1 0

pub one_at_same : (row r : ℕ) → row ≡ r → one_at row r ≡ 1
one_at_same row r e = ap (λ (t : Bool). cond {A = ℕ} t 1 0) (test_same row r e)

one_at_other : (row r : ℕ) → row ≢ r → one_at row r ≡ 0
one_at_other row r ne = ap (λ (t : Bool). cond {A = ℕ} t 1 0) (test_other row r ne)

-- one seat more on a row, and one less
pub raised : (pins : ℕ → ℕ) (row r : ℕ) → put_at pins row (pins row + 1) r ≡ pins r + one_at row r
raised pins row r = ⊎_elim
    (λ (same : r ≡ row). let a = put_same pins row r (pins row + 1) same in let b = one_at_same row r (sym same) in let c : pins row ≡ pins r = ap pins (sym same) in omega arith)
    (λ (ne : r ≢ row). let a = put_other pins row r (pins row + 1) ne in let b = one_at_other row r (λ (e : row ≡ r). ne (sym e)) in omega arith)
    (same_or_other r row)

pub lowered : (pins : ℕ → ℕ) (row r : ℕ) → 0 < pins row → put_at pins row (pins row - 1) r + one_at row r ≡ pins r
lowered pins row r some = ⊎_elim
    (λ (same : r ≡ row). let a = put_same pins row r (pins row - 1) same in let b = one_at_same row r (sym same) in let c : pins row ≡ pins r = ap pins (sym same) in omega arith)
    (λ (ne : r ≢ row). let a = put_other pins row r (pins row - 1) ne in let b = one_at_other row r (λ (e : row ≡ r). ne (sym e)) in omega arith)
    (same_or_other r row)
