-- The least and the greatest of values of one class go first among them.
use Rattle.std.proofs.Common.{◌≡◌, ℕ, zero, suc, ◌<◌, ◌⊎◌, inl, inr, Bool, true, false, cond, List, [], ◌∷◌, length, get_or, refl, sym, ap, ap₂, ◌∙◌, subst, arith, All, true≢false}
use Rattle.std.specs.Prelude.{◌&&◌, Contains, Option, Some, None, is_some}
use Rattle.std.specs.Cmp.{IsTotalOrder, bool_cmp_total}
use Rattle.std.specs.Cmp.Lexicographic.{slice_cmp}
use Rattle.std.specs.Ordering.{nat_cmp, int_cmp, bool_cmp, is_lt, ordering_reverse}
use Rattle.std.specs.declared.cmp.Ordering.{Ordering}
use Rattle.std.specs.declared.cmp.Ordering.TheVariants.{Less, Equal, Greater}
use Rattle.std.proofs.lemmas.Cmp.{nat_cmp_total, int_cmp_total, nat_list_cmp_total}
use Rattle.std.proofs.lemmas.List.Elements.{All-cons, All-head, All-nil, All-tail, All-weaker}
use Rattle.qd_base.specs.declared.cell.Cell.{Cell}
use Rattle.qd_base.specs.declared.cell.Cell.TheVariants as cell
use Rattle.qd_value.specs.Cells.{Class, class_of, is_null, order}
use Rattle.qd_meaning.specs.Grouped.{best, better, is_less, values}
use Rattle.qd_group.specs.Laws.{ExtremesGoFirst, GoesFirst, IsOf}
use Rattle.qd_group.proofs.Bests.{better_none, better_some, less_of, takes_greater, takes_less, Takes}

-- ---- one order

not_less : (o : Ordering) → o ≡ ordering_reverse o → is_lt o ≡ false
not_less Less e = cc
not_less Equal e = refl
not_less Greater e = refl

not_turned : (o p : Ordering) → o ≡ ordering_reverse p → is_lt p ≡ true → is_lt o ≡ false
not_turned o p e lt = ap is_lt (e ∙ ap ordering_reverse (less_of p lt))

less_itself : (c : Cell) → is_less c c ≡ false
less_itself cell.Null = refl
less_itself (cell.Long x) = not_less (int_cmp x x) (int_cmp_total.antisymm x x)
less_itself (cell.Bool x) = not_less (bool_cmp x x) (bool_cmp_total.antisymm x x)
less_itself (cell.Text x) = not_less (slice_cmp nat_cmp x x) (nat_list_cmp_total.antisymm x x)
less_itself (cell.Time x) = not_less (nat_cmp x x) (nat_cmp_total.antisymm x x)

less_turned : (b c : Cell) → is_less b c ≡ true → is_less c b ≡ false
less_turned (cell.Long b) (cell.Long c) e = not_turned (int_cmp c b) (int_cmp b c) (int_cmp_total.antisymm c b) e
less_turned (cell.Bool b) (cell.Bool c) e = not_turned (bool_cmp c b) (bool_cmp b c) (bool_cmp_total.antisymm c b) e
less_turned (cell.Text b) (cell.Text c) e = not_turned (slice_cmp nat_cmp c b) (slice_cmp nat_cmp b c) (nat_list_cmp_total.antisymm c b) e
less_turned (cell.Time b) (cell.Time c) e = not_turned (nat_cmp c b) (nat_cmp b c) (nat_cmp_total.antisymm c b) e
less_turned _ _ e = cc

less_null : (c : Cell) → is_less c cell.Null ≡ false
less_null cell.Null = refl
less_null (cell.Long x) = refl
less_null (cell.Bool x) = refl
less_null (cell.Text x) = refl
less_null (cell.Time x) = refl

-- ---- what a test of cells keeps to

record Picks (takes : Cell → Cell → Bool) : Type 0 where
  itself : (c : Cell) → takes c c ≡ false
  no_null : (c : Cell) → takes cell.Null c ≡ false
  turned : (b c : Cell) → takes b c ≡ true → takes c b ≡ false
  neither : (r c b : Cell) → is_some (order c b) ≡ true → takes r c ≡ false → takes c b ≡ false → takes r b ≡ false

picks_less : Picks is_less
picks_less = record { itself = less_itself; no_null = λ c. refl; turned = less_turned; neither = takes_less.neither }

picks_greater : Picks (λ b a. is_less a b)
picks_greater = record { itself = less_itself; no_null = less_null; turned = λ b c e. less_turned c b e; neither = takes_greater.neither }

-- ---- classes

in_order : (b c : Cell) → class_of b ≡ class_of c → is_null b ≡ false → is_some (order b c) ≡ true
in_order cell.Null c same some = absurd (true≢false some)
in_order (cell.Long b) (cell.Long c) same some = refl
in_order (cell.Bool b) (cell.Bool c) same some = refl
in_order (cell.Text b) (cell.Text c) same some = refl
in_order (cell.Time b) (cell.Time c) same some = refl
in_order _ _ same some = cc

class_some : (c : Cell) → is_null c ≡ false → class_of c ≡ None → true ≡ false
class_some cell.Null some none = some
class_some (cell.Long x) some none = cc
class_some (cell.Bool x) some none = cc
class_some (cell.Text x) some none = cc
class_some (cell.Time x) some none = cc

has_class : (k : Class) (c : Cell) → is_null c ≡ false → IsOf k c → class_of c ≡ Some k
has_class k c some (inl none) = absurd (true≢false (class_some c some none))
has_class k c some (inr is) = is

null_of : (c : Cell) → is_null c ≡ true → c ≡ cell.Null
null_of cell.Null e = refl
null_of (cell.Long x) e = absurd (true≢false (sym e))
null_of (cell.Bool x) e = absurd (true≢false (sym e))
null_of (cell.Text x) e = absurd (true≢false (sym e))
null_of (cell.Time x) e = absurd (true≢false (sym e))

-- ---- the better of two

module _ (takes : Cell → Cell → Bool) where
  one_of : (a b : Cell) → (better takes a b ≡ a) ⊎ (better takes a b ≡ b)
  one_of a b = by (is_null a) (is_null b) refl refl
    where
      by : (s t : Bool) → is_null a ≡ s → is_null b ≡ t → (better takes a b ≡ a) ⊎ (better takes a b ≡ b)
      by true t e f = inr (ap (λ (x : Cell). better takes x b) (null_of a e))
      by false true e f = inl (ap (better takes a) (null_of b f) ∙ better_none takes a)
      by false false e f = choice (takes b a) (better_some takes a b e f)
        where
          choice : (t : Bool) → better takes a b ≡ cond t b a → (better takes a b ≡ a) ⊎ (better takes a b ≡ b)
          choice true g = inr g
          choice false g = inl g

  member : (cells : List Cell) → (best takes cells ≡ cell.Null) ⊎ Contains cells (best takes cells)
  member [] = inl refl
  member (c ∷ cs) = by (one_of c (best takes cs)) (member cs)
    where
      by : (better takes c (best takes cs) ≡ c) ⊎ (better takes c (best takes cs) ≡ best takes cs) → (best takes cs ≡ cell.Null) ⊎ Contains cs (best takes cs)
          → (better takes c (best takes cs) ≡ cell.Null) ⊎ Contains (c ∷ cs) (better takes c (best takes cs))
      by (inl e) before = inr (0, omega arith, sym e)
      by (inr e) (inl none) = inl (e ∙ none)
      by (inr e) (inr has) = subst (λ (x : Cell). (x ≡ cell.Null) ⊎ Contains (c ∷ cs) x) (sym e) (inr (suc has.0, (let low = has.1 in omega arith), has.2))

  better_null : (a b : Cell) → better takes a b ≡ cell.Null → (a ≡ cell.Null) × (b ≡ cell.Null)
  better_null a b none = by (is_null a) (is_null b) refl refl
    where
      by : (s t : Bool) → is_null a ≡ s → is_null b ≡ t → (a ≡ cell.Null) × (b ≡ cell.Null)
      by true t e f = (null_of a e, sym (ap (λ (x : Cell). better takes x b) (null_of a e)) ∙ none)
      by false true e f = absurd (true≢false (sym (ap is_null (sym (ap (better takes a) (null_of b f) ∙ better_none takes a) ∙ none)) ∙ e))
      by false false e f = choice (takes b a) (sym (better_some takes a b e f) ∙ none)
        where
          choice : (t : Bool) → cond t b a ≡ cell.Null → (a ≡ cell.Null) × (b ≡ cell.Null)
          choice true g = absurd (true≢false (sym (ap is_null g) ∙ f))
          choice false g = absurd (true≢false (sym (ap is_null g) ∙ e))

  all_null : (cells : List Cell) → best takes cells ≡ cell.Null → All (λ c. c ≡ cell.Null) cells
  all_null [] none = All-nil (λ (c : Cell). c ≡ cell.Null)
  all_null (c ∷ cs) none =
      let both = better_null c (best takes cs) none in
      All-cons (λ (c : Cell). c ≡ cell.Null) c cs both.0 (all_null cs both.1)

  module _ (picks : Picks takes) (k : Class) where
    best_of : (cells : List Cell) → All (IsOf k) cells → IsOf k (best takes cells)
    best_of [] of' = inl refl
    best_of (c ∷ cs) of' = by (one_of c (best takes cs)) (best_of cs (All-tail (IsOf k) c cs of'))
      where
        by : (better takes c (best takes cs) ≡ c) ⊎ (better takes c (best takes cs) ≡ best takes cs) → IsOf k (best takes cs) → IsOf k (better takes c (best takes cs))
        by (inl e) rest = subst (IsOf k) (sym e) (All-head (IsOf k) c cs of')
        by (inr e) rest = subst (IsOf k) (sym e) rest

    -- a cell more
    with_cell : (c b : Cell) (cs : List Cell) → IsOf k c → IsOf k b → All (λ x. takes x b ≡ false) cs → (b ≡ cell.Null → All (λ x. x ≡ cell.Null) cs) → All (λ x. takes x (better takes c b) ≡ false) (c ∷ cs)
    with_cell c b cs of_c of_b none null = by (is_null c) (is_null b) refl refl
      where
        by : (s t : Bool) → is_null c ≡ s → is_null b ≡ t → All (λ x. takes x (better takes c b) ≡ false) (c ∷ cs)
        by true t e f =
            let same : better takes c b ≡ b = ap (λ (x : Cell). better takes x b) (null_of c e) in
            subst (λ (y : Cell). All (λ x. takes x y ≡ false) (c ∷ cs)) (sym same)
            (All-cons (λ (x : Cell). takes x b ≡ false) c cs (ap (λ (x : Cell). takes x b) (null_of c e) ∙ picks.no_null b) none)
        by false true e f =
            let same : better takes c b ≡ c = ap (better takes c) (null_of b f) ∙ better_none takes c in
            subst (λ (y : Cell). All (λ x. takes x y ≡ false) (c ∷ cs)) (sym same)
            (All-cons (λ (x : Cell). takes x c ≡ false) c cs (picks.itself c) (All-weaker (λ (x : Cell). x ≡ cell.Null) (λ x. takes x c ≡ false) (λ x n. ap (λ (y : Cell). takes y c) n ∙ picks.no_null c) cs (null (null_of b f))))
        by false false e f = choice (takes b c) refl
          where
            choice : (t : Bool) → takes b c ≡ t → All (λ x. takes x (better takes c b) ≡ false) (c ∷ cs)
            choice true g =
                subst (λ (y : Cell). All (λ x. takes x y ≡ false) (c ∷ cs)) (sym (better_some takes c b e f ∙ ap (λ (t : Bool). cond t b c) g))
                (All-cons (λ (x : Cell). takes x b ≡ false) c cs (picks.turned b c g) none)
            choice false g =
                let ordered : is_some (order b c) ≡ true = in_order b c (has_class k b f of_b ∙ sym (has_class k c e of_c)) f in
                subst (λ (y : Cell). All (λ x. takes x y ≡ false) (c ∷ cs)) (sym (better_some takes c b e f ∙ ap (λ (t : Bool). cond t b c) g))
                (All-cons (λ (x : Cell). takes x c ≡ false) c cs (picks.itself c) (All-weaker (λ (x : Cell). takes x b ≡ false) (λ x. takes x c ≡ false) (λ x n. picks.neither x b c ordered n g) cs none))

    none_before : (cells : List Cell) → All (IsOf k) cells → All (λ c. takes c (best takes cells) ≡ false) cells
    none_before [] of' = All-nil (λ (c : Cell). takes c cell.Null ≡ false)
    none_before (c ∷ cs) of' =
        let rest = All-tail (IsOf k) c cs of' in
        with_cell c (best takes cs) cs (All-head (IsOf k) c cs of') (best_of cs rest) (none_before cs rest) (all_null cs)

    goes_first : (cells : List Cell) → All (IsOf k) cells → GoesFirst takes cells (best takes cells)
    goes_first cells of' = record { member = member cells; null = all_null cells; none_before = none_before cells of' }

pub extremes-go-first : ExtremesGoFirst
extremes-go-first = record {
  least = λ k e rows of'. goes_first is_less picks_less k (values e rows) of';
  greatest = λ k e rows of'. goes_first (λ b a. is_less a b) picks_greater k (values e rows) of';
}
