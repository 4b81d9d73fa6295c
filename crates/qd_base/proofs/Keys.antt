-- What keys do: no two rows of a table are equal on all of them, and the last of equals stays.
use Rattle.std.proofs.Common.{◌≡◌, ℕ, zero, suc, get_or, ◌<◌, Bool, true, false, not, ◌&&◌, ltb, leb, List, [], ◌∷◌, refl, sym, ap₂, ◌∙◌, inl, inr, ◌⊎◌, ⊎_elim, arith}
use Rattle.std.specs.List.{AllByRecursion, IsDistinct, Contains, filter, fold}
use Rattle.std.specs.Cmp.{bool_eq_equiv}
use Rattle.std.proofs.lemmas.Cmp.{nat_eq_equiv, int_eq_equiv, nat_list_eq_equiv}
use Rattle.std.proofs.lemmas.Bool.{leb-true, not-true, not_from_false, le-ltb, le-leb, lt-ltb, cases_lt}
use Rattle.std.proofs.lemmas.List.Elements.{All-from_recursion, All-contains, Contains-append_left, Contains-append_right, Contains-append_cases}
use Rattle.qd_base.specs.declared.cell.Cell.{Cell}
use Rattle.qd_base.specs.declared.cell.Cell.TheVariants as cell
use Rattle.qd_base.specs.Rows.{Row, cell_eq, cell_at, time_of, same_on, without_equals, in_time, put}
use Rattle.qd_base.specs.Laws.{LastOfEqualKeysStays}
use Rattle.qd_base.proofs.Lists.{each-filter, each-weaker, each-both, each-passes, Contains-cons, Contains-filter, IsDistinct-filter, IsDistinct-append, IsDistinct-cons, IsDistinct-nil, parts_differ}

cell_eq-sym : (a b : Cell) → cell_eq a b ≡ cell_eq b a
cell_eq-sym cell.Null cell.Null = refl
cell_eq-sym (cell.Long x) (cell.Long y) = int_eq_equiv.symm x y
cell_eq-sym (cell.Bool x) (cell.Bool y) = bool_eq_equiv.symm x y
cell_eq-sym (cell.Text x) (cell.Text y) = nat_list_eq_equiv.symm x y
cell_eq-sym (cell.Time x) (cell.Time y) = nat_eq_equiv.symm x y
cell_eq-sym _ _ = refl

pub same_on-sym : (keys : List ℕ) (a b : Row) → same_on keys a b ≡ same_on keys b a
same_on-sym [] a b = refl
same_on-sym (k ∷ ks) a b = ap₂ (λ x y. x && y) (cell_eq-sym (cell_at a k) (cell_at b k)) (same_on-sym ks a b)

-- A row put into rows of which it equals none makes no two that are equal.
module _ (e : Row → Row → Bool) (flip : (x y : Row) → e x y ≡ e y x) (col : ℕ) where
  pub IsDistinct-in_time : (rows : List Row) (row : Row) → AllByRecursion (λ x. e x row ≡ false) rows → IsDistinct e rows → IsDistinct e (in_time col rows row)
  IsDistinct-in_time rows row h d =
      let T : ℕ = time_of col row in
      let upto : Row → Bool = λ x. leb (time_of col x) T in
      let past : Row → Bool = λ x. ltb T (time_of col x) in
      let front : AllByRecursion (λ x. e x row ≡ false) (filter upto rows) = each-filter (λ x. e x row ≡ false) upto rows h in
      let back : AllByRecursion (λ y. e row y ≡ false) (filter past rows) = each-filter (λ y. e row y ≡ false) past rows (each-weaker (λ x. e x row ≡ false) (λ y. e row y ≡ false) (λ y g. flip row y ∙ g) rows h) in
      let across : AllByRecursion (λ x. AllByRecursion (λ y. e x y ≡ false) (filter past rows)) (filter upto rows) =
      parts_differ e (λ x y g. flip y x ∙ g) upto past (λ x g. le-ltb T (time_of col x) (leb-true (time_of col x) T g)) rows d in
      IsDistinct-append e (filter upto rows) (row ∷ filter past rows) (IsDistinct-filter e upto rows d) (IsDistinct-cons e row (filter past rows) back (IsDistinct-filter e past rows d))
      (each-both (λ x. e x row ≡ false) (λ x. AllByRecursion (λ y. e x y ≡ false) (filter past rows)) (filter upto rows) front across)

-- those that differ from the row on a key
left : (k : ℕ) (ks : List ℕ) (rows : List Row) (row : Row) → AllByRecursion (λ x. same_on (k ∷ ks) x row ≡ false) (without_equals (k ∷ ks) rows row)
left k ks rows row =
    each-weaker (λ x. not (same_on (k ∷ ks) x row) ≡ true) (λ x. same_on (k ∷ ks) x row ≡ false) (λ x g. not-true (same_on (k ∷ ks) x row) g) (without_equals (k ∷ ks) rows row)
    (each-passes (λ x. not (same_on (k ∷ ks) x row)) rows)

pub IsDistinct-put : (col k : ℕ) (ks : List ℕ) (rows : List Row) (row : Row) → IsDistinct (same_on (k ∷ ks)) rows → IsDistinct (same_on (k ∷ ks)) (put col (k ∷ ks) rows row)
IsDistinct-put col k ks rows row d =
    IsDistinct-in_time (same_on (k ∷ ks)) (same_on-sym (k ∷ ks)) col (without_equals (k ∷ ks) rows row) row (left k ks rows row)
    (IsDistinct-filter (same_on (k ∷ ks)) (λ x. not (same_on (k ∷ ks) x row)) rows d)

pub IsDistinct-fold : (col k : ℕ) (ks : List ℕ) (rows new : List Row) → IsDistinct (same_on (k ∷ ks)) rows → IsDistinct (same_on (k ∷ ks)) (fold (put col (k ∷ ks)) rows new)
IsDistinct-fold col k ks rows [] d = d
IsDistinct-fold col k ks rows (row ∷ new) d = IsDistinct-fold col k ks (put col (k ∷ ks) rows row) new (IsDistinct-put col k ks rows row d)

pub keys_unique : (col k : ℕ) (ks : List ℕ) (new : List Row) → IsDistinct (same_on (k ∷ ks)) (fold (put col (k ∷ ks)) [] new)
keys_unique col k ks new = IsDistinct-fold col k ks [] new (IsDistinct-nil (same_on (k ∷ ks)))

Contains-first : (xs : List Row) (x : Row) → Contains (x ∷ xs) x
Contains-first xs x = (0, omega arith, refl)

pub row_there : (col : ℕ) (keys : List ℕ) (rows : List Row) (row : Row) → Contains (put col keys rows row) row
row_there col keys rows row =
    let rest : List Row = without_equals keys rows row in
    Contains-append_right (filter (λ x. leb (time_of col x) (time_of col row)) rest) (row ∷ filter (λ x. ltb (time_of col row) (time_of col x)) rest) row (Contains-first _ row)

-- a row that was there is before the new one or behind it
pub kept_in_time : (col : ℕ) (rows : List Row) (row other : Row) → Contains rows other → Contains (in_time col rows row) other
kept_in_time col rows row other c =
    let T : ℕ = time_of col row in
    let upto : Row → Bool = λ x. leb (time_of col x) T in
    let past : Row → Bool = λ x. ltb T (time_of col x) in
    ⊎_elim
    (λ lt. Contains-append_right (filter upto rows) (row ∷ filter past rows) other (Contains-cons row (filter past rows) other (Contains-filter past rows other c (lt-ltb T (time_of col other) lt))))
    (λ le. Contains-append_left (filter upto rows) (row ∷ filter past rows) other (Contains-filter upto rows other c (le-leb (time_of col other) T le)))
    (cases_lt T (time_of col other))

kept_without : (keys : List ℕ) (rows : List Row) (row other : Row) → Contains rows other → same_on keys other row ≡ false → Contains (without_equals keys rows row) other
kept_without [] rows row other c e = c
kept_without (k ∷ ks) rows row other c e = Contains-filter (λ x. not (same_on (k ∷ ks) x row)) rows other c (not_from_false (same_on (k ∷ ks) other row) e)

pub others_stay : (col : ℕ) (keys : List ℕ) (rows : List Row) (row other : Row) → Contains rows other → same_on keys other row ≡ false → Contains (put col keys rows row) other
others_stay col keys rows row other c e = kept_in_time col (without_equals keys rows row) row other (kept_without keys rows row other c e)

single_at : (x y : Row) (k : ℕ) → k < 1 → get_or (x ∷ []) k y ≡ y → y ≡ x
single_at x y zero lt e = sym e
single_at x y (suc k) lt e = absurd (omega arith)

single : (x y : Row) → Contains (x ∷ []) y → y ≡ x
single x y c = single_at x y c.0 c.1 c.2

differs : (k : ℕ) (ks : List ℕ) (xs : List Row) (row other : Row) → AllByRecursion (λ x. same_on (k ∷ ks) x row ≡ false) xs → Contains xs other → same_on (k ∷ ks) other row ≡ false
differs k ks xs row other h c = All-contains (λ x. same_on (k ∷ ks) x row ≡ false) xs other (All-from_recursion (λ x. same_on (k ∷ ks) x row ≡ false) xs h) c

pub only_one : (col k : ℕ) (ks : List ℕ) (rows : List Row) (row other : Row) → Contains (put col (k ∷ ks) rows row) other → (other ≡ row) ⊎ (same_on (k ∷ ks) other row ≡ false)
only_one col k ks rows row other c =
    let rest : List Row = without_equals (k ∷ ks) rows row in
    let upto : Row → Bool = λ x. leb (time_of col x) (time_of col row) in
    let past : Row → Bool = λ x. ltb (time_of col row) (time_of col x) in
    let P : Row → Type 0 = λ x. same_on (k ∷ ks) x row ≡ false in
    ⊎_elim
    (λ d. inr (differs k ks (filter upto rest) row other (each-filter P upto rest (left k ks rows row)) d))
    (λ d. ⊎_elim (λ s. inl (single row other s)) (λ s. inr (differs k ks (filter past rest) row other (each-filter P past rest (left k ks rows row)) s))
    (Contains-append_cases (row ∷ []) (filter past rest) other d))
    (Contains-append_cases (filter upto rest) (row ∷ filter past rest) other c)

pub last_stays : LastOfEqualKeysStays
last_stays = record { there = row_there; others = others_stay; only = only_one }
