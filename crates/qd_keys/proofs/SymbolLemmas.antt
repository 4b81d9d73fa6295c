-- Numbers of cells by the names that they are equal to.
use Rattle.std.proofs.Common.{◌≡◌, ℕ, zero, suc, ◌+◌, ◌-◌, ◌<◌, Bool, true, false, eqb, List, [], ◌∷◌, ◌++◌, Some, length, take, get_or, refl, sym, ap, ap₂, ◌∙◌, arith, subst, inl, inr, length-append}
use Rattle.std.specs.Cmp.{both_ways}
use Rattle.std.proofs.lemmas.Bool.{cases_lt, cond-true, cond-false, eq-eqb, eqb-true, ne_eqb}
use Rattle.std.proofs.lemmas.List.{get_or_append_left, get_or-append_right, get_or_default, take_more}
use Rattle.std.proofs.lemmas.Option.{same_Some}
use Rattle.qd_base.specs.declared.cell.Cell.{Cell}
use Rattle.qd_base.specs.declared.cell.Cell.TheVariants as cell
use Rattle.qd_base.specs.Rows.{Row, cell_eq}
use Rattle.qd_value.specs.Cells.{is_null}
use Rattle.qd_group.specs.Grouping.{spot, AreGroups}
use Rattle.qd_group.proofs.Distincts.{cells_equiv}
use Rattle.qd_group.proofs.Spots.{spot-same, spot-some}
use Rattle.qd_keys.specs.Keys.{cells_of_both, same_cells, same_in, Tells}
use Rattle.qd_keys.specs.Symbols.{number_of, AreNumbersOf}
use Rattle.qd_keys.proofs.KeyLemmas.{length-cells}

-- ---- NULL

null_is : (c : Cell) → is_null c ≡ true → c ≡ cell.Null
null_is cell.Null e = refl
null_is (cell.Long x) e = cc
null_is (cell.Bool x) e = cc
null_is (cell.Text x) e = cc
null_is (cell.Time x) e = cc

null_apart : (c : Cell) → is_null c ≡ false → cell_eq cell.Null c ≡ false
null_apart cell.Null e = cc
null_apart (cell.Long x) e = refl
null_apart (cell.Bool x) e = refl
null_apart (cell.Text x) e = refl
null_apart (cell.Time x) e = refl

-- ---- the number of a cell

module _ (names : List Cell) (fs : List ℕ) where
  by_null : (c : Cell) (n : ℕ) → is_null c ≡ true → number_of names fs c ≡ Some n → n ≡ length fs
  by_null c n is at = same_Some n (length fs) (sym at ∙ cond-true (is_null c) (Some (length fs)) (spot (λ f. cell_eq (get_or names f cell.Null) c) fs) is)

  by_name : (c : Cell) (n : ℕ) → is_null c ≡ false → number_of names fs c ≡ Some n → spot (λ f. cell_eq (get_or names f cell.Null) c) fs ≡ Some n
  by_name c n is at = sym (cond-false (is_null c) (Some (length fs)) (spot (λ f. cell_eq (get_or names f cell.Null) c) fs) is) ∙ at

  pub number_bound : (c : Cell) (n : ℕ) → number_of names fs c ≡ Some n → n < length fs + 1
  number_bound c n at = by (is_null c) refl
    where
      by : (b : Bool) → is_null c ≡ b → n < length fs + 1
      by true is = let e = by_null c n is at in omega (arith, e)
      by false is = let h = (spot-some (λ f. cell_eq (get_or names f cell.Null) c) fs n 0 (by_name c n is at)).0 in omega (arith, h)

  -- NULL, and a text beside another cell
  apart_of : (a b : ℕ) → a ≡ length fs → b < length fs → eqb a b ≡ false
  apart_of a b is low = ne_eqb a b (λ e. omega (arith, e, is, low))

  -- two cells have one number exactly where they are equal
  pub number_tells : (c e : Cell) (n m : ℕ) → number_of names fs c ≡ Some n → number_of names fs e ≡ Some m → eqb n m ≡ cell_eq c e
  number_tells c e n m at other = by (is_null c) (is_null e) refl refl
    where
      low : (x : Cell) (k : ℕ) → is_null x ≡ false → number_of names fs x ≡ Some k → k < length fs
      low x k is found = (spot-some (λ f. cell_eq (get_or names f cell.Null) x) fs k 0 (by_name x k is found)).0

      named : is_null c ≡ false → is_null e ≡ false → eqb n m ≡ cell_eq c e
      named c_is e_is = both_ways (eqb n m) (cell_eq c e) forward backward
        where
          c_found : cell_eq (get_or names (get_or fs n 0) cell.Null) c ≡ true
          c_found = (spot-some (λ f. cell_eq (get_or names f cell.Null) c) fs n 0 (by_name c n c_is at)).1

          e_found : cell_eq (get_or names (get_or fs m 0) cell.Null) e ≡ true
          e_found = (spot-some (λ f. cell_eq (get_or names f cell.Null) e) fs m 0 (by_name e m e_is other)).1

          forward : eqb n m ≡ true → cell_eq c e ≡ true
          forward h =
              let one : cell_eq (get_or names (get_or fs m 0) cell.Null) c ≡ true = ap (λ (k : ℕ). cell_eq (get_or names (get_or fs k 0) cell.Null) c) (sym (eqb-true n m h)) ∙ c_found in
              sym (cells_equiv.congr (get_or names (get_or fs m 0) cell.Null) c e one) ∙ e_found

          backward : cell_eq c e ≡ true → eqb n m ≡ true
          backward h =
              let agree : spot (λ f. cell_eq (get_or names f cell.Null) c) fs ≡ spot (λ f. cell_eq (get_or names f cell.Null) e) fs
              = spot-same (λ f. cell_eq (get_or names f cell.Null) c) (λ f. cell_eq (get_or names f cell.Null) e) fs
              (λ k d there. cells_equiv.symm (get_or names (get_or fs k d) cell.Null) c ∙ cells_equiv.congr c e (get_or names (get_or fs k d) cell.Null) h ∙ cells_equiv.symm e (get_or names (get_or fs k d) cell.Null)) in
              eq-eqb n m (same_Some n m (sym (by_name c n c_is at) ∙ agree ∙ by_name e m e_is other))

      by : (a b : Bool) → is_null c ≡ a → is_null e ≡ b → eqb n m ≡ cell_eq c e
      by true true c_is e_is = eq-eqb n m (by_null c n c_is at ∙ sym (by_null e m e_is other)) ∙ sym (ap₂ cell_eq (null_is c c_is) (null_is e e_is))
      by true false c_is e_is = apart_of n m (by_null c n c_is at) (low e m e_is other) ∙ sym (ap (λ x. cell_eq x e) (null_is c c_is) ∙ null_apart e e_is)
      by false true c_is e_is =
          ne_eqb n m (λ h. let a = low c n c_is at in let b = by_null e m e_is other in omega (arith, h, a, b))
          ∙ sym (ap (λ x. cell_eq c x) (null_is e e_is) ∙ cells_equiv.symm c cell.Null ∙ null_apart c c_is)
      by false false c_is e_is = named c_is e_is

  -- a text that is a name has that name's number
  pub name_number : (ns : List ℕ) (n m : ℕ) (t : List ℕ) → AreGroups (same_in names) n ns fs → m < n → get_or names m cell.Null ≡ cell.Text t → number_of names fs (cell.Text t) ≡ Some (get_or ns m 0)
  name_number ns n m t are low is = ap (λ (c : Cell). spot (λ f. cell_eq (get_or names f cell.Null) c) fs) (sym is) ∙ are.each m low

  -- ---- the numbers of both sides

  pub numbers_append : (cells more : List Cell) (ns more_ns : List ℕ) → AreNumbersOf names fs cells ns → AreNumbersOf names fs more more_ns → AreNumbersOf names fs (cells ++ more) (ns ++ more_ns)
  numbers_append cells more ns more_ns are further = record {
    count = omega (arith, length-append cells more, length-append ns more_ns, are.count, further.count);
    each = λ i low. elim (cases_lt i (length cells)) [
      | inl less ↦
          ap (number_of names fs) (get_or_append_left cells more cell.Null i less)
          ∙ are.each i less ∙ ap Some (sym (get_or_append_left ns more_ns 0 i (omega (arith, are.count))))
      | inr high ↦
          ap (number_of names fs) (get_or-append_right cells more (length cells) i cell.Null refl high)
          ∙ further.each (i - length cells) (omega (arith, length-append cells more))
          ∙ ap Some (sym (get_or-append_right ns more_ns (length cells) i 0 are.count high))
    ];
  }

  pub numbers_none : AreNumbersOf names fs [] []
  numbers_none = record { count = refl; each = λ i low. absurd (omega arith) }

  pub numbers_more : (cells : List Cell) (ns more : List ℕ) (i n : ℕ) → i < length cells → number_of names fs (get_or cells i cell.Null) ≡ Some n → more ≡ ns ++ n ∷ [] → AreNumbersOf names fs (take i cells) ns → AreNumbersOf names fs (take (i + 1) cells) more
  numbers_more cells ns more i n low is whole are =
      subst (AreNumbersOf names fs (take (i + 1) cells)) (sym whole)
      (subst (λ (l : List Cell). AreNumbersOf names fs l (ns ++ n ∷ [])) (sym (take_more cells i cell.Null low))
      (numbers_append (take i cells) (get_or cells i cell.Null ∷ []) ns (n ∷ []) are (record { count = refl; each = one })))
    where
      one : (j : ℕ) → j < 1 → number_of names fs (get_or (get_or cells i cell.Null ∷ []) j cell.Null) ≡ Some (get_or (n ∷ []) j 0)
      one zero there = is
      one (suc j) there = absurd (omega arith)

  -- numbers of the cells of both sides tell them apart
  pub numbers_tell : (k : ℕ × ℕ) (first second : List Row) (n m bound : ℕ) (ns : List ℕ) → length first ≡ n → length second ≡ m → bound ≡ length fs + 1
      → AreNumbersOf names fs (cells_of_both k first second) ns → Tells (same_cells k first second) (n + m) bound ns
  numbers_tell k first second n m bound ns n_is m_is bound_is are = record {
    count = are.count ∙ size;
    below = λ i d low.
        let h = number_bound (get_or (cells_of_both k first second) i cell.Null) (get_or ns i 0) (are.each i (omega (arith, are.count))) in
        let same = get_or_default ns i d 0 low in
        omega (arith, h, same, bound_is);
    each = λ i j i_low j_low.
        number_tells (get_or (cells_of_both k first second) i cell.Null) (get_or (cells_of_both k first second) j cell.Null) (get_or ns i 0) (get_or ns j 0) (are.each i (omega (arith, size))) (are.each j (omega (arith, size)));
  }
    where
      size : length (cells_of_both k first second) ≡ n + m
      size = length-cells k first second ∙ ap₂ (λ a b. a + b) n_is m_is
