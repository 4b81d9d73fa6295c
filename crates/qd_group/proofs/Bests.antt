-- The best of some cells, from the front.
use Rattle.std.proofs.Common.{◌≡◌, Bool, true, false, cond, List, [], ◌∷◌, refl, sym, ap, ◌∙◌, subst}
use Rattle.std.specs.Prelude.{◌||◌, Option, Some, None, is_some, is_none, fold}
use Rattle.std.specs.Cmp.{IsTotalOrder, bool_cmp_total}
use Rattle.std.specs.Cmp.Lexicographic.{slice_cmp}
use Rattle.std.specs.Ordering.{nat_cmp, int_cmp, bool_cmp, is_lt, is_gt, ordering_reverse}
use Rattle.std.specs.declared.cmp.Ordering.{Ordering}
use Rattle.std.specs.declared.cmp.Ordering.TheVariants.{Less, Equal, Greater}
use Rattle.std.proofs.lemmas.Bool.{false≢true, true≢false}
use Rattle.std.proofs.lemmas.Cmp.{upto, nat_cmp_total, int_cmp_total, nat_list_cmp_total}
use Rattle.qd_base.specs.declared.cell.Cell.{Cell}
use Rattle.qd_base.specs.declared.cell.Cell.TheVariants as cell
use Rattle.qd_value.specs.Cells.{is_null, order}
use Rattle.qd_meaning.specs.Grouped.{is_less, better, best}
use Rattle.qd_group.specs.Tallies.{Leading, lead_after}

-- ---- one order

pub less_of : (o : Ordering) → is_lt o ≡ true → o ≡ Less
less_of Less e = refl
less_of Equal e = cc
less_of Greater e = cc

turned_less : (o : Ordering) → is_lt (ordering_reverse o) ≡ is_gt o
turned_less Less = refl
turned_less Equal = refl
turned_less Greater = refl

turned_greater : (o : Ordering) → is_gt (ordering_reverse o) ≡ is_lt o
turned_greater Less = refl
turned_greater Equal = refl
turned_greater Greater = refl

module _ {K : Type 0} (R : K → K → Ordering) (total : IsTotalOrder R) where
  below : (x y z : K) → is_lt (R x y) ≡ true → is_lt (R y z) ≡ true → is_lt (R x z) ≡ true
  below x y z a b = ap is_lt (total.trans x y z (less_of (R x y) a) (less_of (R y z) b))

  above : (x y z : K) → is_lt (R x y) ≡ false → is_lt (R y z) ≡ false → is_lt (R x z) ≡ false
  above x y z a b =
      turn x z ∙ upto total z y x (sym (turn y z) ∙ b) (sym (turn x y) ∙ a)
    where
      turn : (x y : K) → is_lt (R x y) ≡ is_gt (R y x)
      turn x y = ap is_lt (total.antisymm x y) ∙ turned_less (R y x)

-- ---- which of two cells is taken

-- what a test of cells keeps to
pub record Takes (takes : Cell → Cell → Bool) : Type 0 where
  pub along : (r c b : Cell) → takes r c ≡ true → takes c b ≡ true → takes r b ≡ true
  pub apart : (r c b : Cell) → takes r c ≡ true → is_some (order c b) ≡ false → takes r b ≡ false
  pub neither : (r c b : Cell) → is_some (order c b) ≡ true → takes r c ≡ false → takes c b ≡ false → takes r b ≡ false

less_along : (r c b : Cell) → is_less r c ≡ true → is_less c b ≡ true → is_less r b ≡ true
less_along (cell.Long r) (cell.Long c) (cell.Long b) e f = below int_cmp int_cmp_total r c b e f
less_along (cell.Bool r) (cell.Bool c) (cell.Bool b) e f = below bool_cmp bool_cmp_total r c b e f
less_along (cell.Text r) (cell.Text c) (cell.Text b) e f = below (slice_cmp nat_cmp) nat_list_cmp_total r c b e f
less_along (cell.Time r) (cell.Time c) (cell.Time b) e f = below nat_cmp nat_cmp_total r c b e f
less_along _ _ _ e f = cc

less_apart : (r c b : Cell) → is_less r c ≡ true → is_some (order c b) ≡ false → is_less r b ≡ false
less_apart (cell.Long r) (cell.Long c) (cell.Long b) e f = cc
less_apart (cell.Bool r) (cell.Bool c) (cell.Bool b) e f = cc
less_apart (cell.Text r) (cell.Text c) (cell.Text b) e f = cc
less_apart (cell.Time r) (cell.Time c) (cell.Time b) e f = cc
less_apart _ _ _ e f = cc

less_neither : (c b r : Cell) → is_some (order c b) ≡ true → is_less r c ≡ false → is_less c b ≡ false → is_less r b ≡ false
less_neither (cell.Long c) (cell.Long b) (cell.Long r) some e f = above int_cmp int_cmp_total r c b e f
less_neither (cell.Bool c) (cell.Bool b) (cell.Bool r) some e f = above bool_cmp bool_cmp_total r c b e f
less_neither (cell.Text c) (cell.Text b) (cell.Text r) some e f = above (slice_cmp nat_cmp) nat_list_cmp_total r c b e f
less_neither (cell.Time c) (cell.Time b) (cell.Time r) some e f = above nat_cmp nat_cmp_total r c b e f
less_neither _ _ _ some e f = cc

greater_apart : (c r b : Cell) → is_less c r ≡ true → is_some (order c b) ≡ false → is_less b r ≡ false
greater_apart (cell.Long c) (cell.Long r) (cell.Long b) e f = cc
greater_apart (cell.Bool c) (cell.Bool r) (cell.Bool b) e f = cc
greater_apart (cell.Text c) (cell.Text r) (cell.Text b) e f = cc
greater_apart (cell.Time c) (cell.Time r) (cell.Time b) e f = cc
greater_apart _ _ _ e f = cc

greater_neither : (c b r : Cell) → is_some (order c b) ≡ true → is_less c r ≡ false → is_less b c ≡ false → is_less b r ≡ false
greater_neither (cell.Long c) (cell.Long b) (cell.Long r) some e f = above int_cmp int_cmp_total b c r f e
greater_neither (cell.Bool c) (cell.Bool b) (cell.Bool r) some e f = above bool_cmp bool_cmp_total b c r f e
greater_neither (cell.Text c) (cell.Text b) (cell.Text r) some e f = above (slice_cmp nat_cmp) nat_list_cmp_total b c r f e
greater_neither (cell.Time c) (cell.Time b) (cell.Time r) some e f = above nat_cmp nat_cmp_total b c r f e
greater_neither _ _ _ some e f = cc

pub takes_less : Takes is_less
takes_less = record { along = less_along; apart = less_apart; neither = λ r c b some e f. less_neither c b r some e f }

pub takes_greater : Takes (λ b a. is_less a b)
takes_greater = record { along = λ r c b e f. less_along b c r f e; apart = λ r c b e f. greater_apart c r b e f; neither = λ r c b some e f. greater_neither c b r some e f }

-- ---- the best of two

pub better_some : (takes : Cell → Cell → Bool) (a b : Cell) → is_null a ≡ false → is_null b ≡ false → better takes a b ≡ cond (takes b a) b a
better_some takes cell.Null b e f = absurd (true≢false e)
better_some takes (cell.Long x) cell.Null e f = absurd (true≢false f)
better_some takes (cell.Bool x) cell.Null e f = absurd (true≢false f)
better_some takes (cell.Text x) cell.Null e f = absurd (true≢false f)
better_some takes (cell.Time x) cell.Null e f = absurd (true≢false f)
better_some takes _ _ e f = refl

pub better_none : (takes : Cell → Cell → Bool) (a : Cell) → better takes a cell.Null ≡ a
better_none takes cell.Null = refl
better_none takes (cell.Long x) = refl
better_none takes (cell.Bool x) = refl
better_none takes (cell.Text x) = refl
better_none takes (cell.Time x) = refl

-- what is answered where these cells come after the best one
abbrev pub led : (Cell → Cell → Bool) → Leading → Cell → Cell
led takes l r = cond l.ended l.best (better takes l.best r)

abbrev lead : Cell → Bool → Leading
lead b ended = record { best = b; ended = ended }

none_some : (o : Option Ordering) (t : Bool) → is_some o ≡ t → is_none o ≡ cond t false true
none_some None true e = cc
none_some None false e = refl
none_some (Some x) true e = refl
none_some (Some x) false e = cc

module _ (takes : Cell → Cell → Bool) (laws : Takes takes) (b c : Cell) (some_b : is_null b ≡ false) (some_c : is_null c ≡ false) where
  -- the better of the best one and one more, and then the rest
  both : (r : Cell) (t : Bool) → takes c b ≡ t → (n : Bool) → is_null r ≡ n → (u : Bool) → takes r c ≡ u
      → better takes b (better takes c r) ≡ cond t (better takes c r) (cond (is_some (order c b)) (better takes b r) b)
  both r t by_c true null u by_r =
      let none : r ≡ cell.Null = is_none_of r null in
      subst (λ (x : Cell). better takes b (better takes c x) ≡ cond t (better takes c x) (cond (is_some (order c b)) (better takes b x) b)) (sym none) (
      ap (better takes b) (better_none takes c)
      ∙ better_some takes b c some_b some_c
      ∙ ap (λ x. cond x c b) by_c
      ∙ by t (is_some (order c b)))
    where
      is_none_of : (x : Cell) → is_null x ≡ true → x ≡ cell.Null
      is_none_of cell.Null e = refl
      is_none_of (cell.Long x) e = absurd (false≢true e)
      is_none_of (cell.Bool x) e = absurd (false≢true e)
      is_none_of (cell.Text x) e = absurd (false≢true e)
      is_none_of (cell.Time x) e = absurd (false≢true e)

      by : (t s : Bool) → cond t c b ≡ cond t (better takes c cell.Null) (cond s (better takes b cell.Null) b)
      by true s = sym (better_none takes c)
      by false true = sym (better_none takes b)
      by false false = refl
  both r t by_c false some_r true by_r =
      ap (better takes b) taken
      ∙ better_some takes b r some_b some_r
      ∙ by t by_c (is_some (order c b)) refl
    where
      taken : better takes c r ≡ r
      taken = better_some takes c r some_c some_r ∙ ap (λ x. cond x r c) by_r

      by : (t : Bool) → takes c b ≡ t → (s : Bool) → is_some (order c b) ≡ s → cond (takes r b) r b ≡ cond t (better takes c r) (cond s (better takes b r) b)
      by true e s o = ap (λ x. cond x r b) (laws.along r c b by_r e) ∙ sym taken
      by false e true o = sym (better_some takes b r some_b some_r)
      by false e false o = ap (λ x. cond x r b) (laws.apart r c b by_r o)
  both r t by_c false some_r false by_r =
      ap (better takes b) left
      ∙ better_some takes b c some_b some_c
      ∙ ap (λ x. cond x c b) by_c
      ∙ by t by_c (is_some (order c b)) refl
    where
      left : better takes c r ≡ c
      left = better_some takes c r some_c some_r ∙ ap (λ x. cond x r c) by_r

      by : (t : Bool) → takes c b ≡ t → (s : Bool) → is_some (order c b) ≡ s → cond t c b ≡ cond t (better takes c r) (cond s (better takes b r) b)
      by true e s o = sym left
      by false e true o = sym (better_some takes b r some_b some_r ∙ ap (λ x. cond x r b) (laws.neither r c b o by_r e))
      by false e false o = refl

  step_some : (r : Cell) → led takes (lead_after (takes c b) (lead b false) c) r ≡ better takes b (better takes c r)
  step_some r =
      ap (λ t. led takes (cond t (lead b false) (cond (takes c b || is_null b) (lead c false) (lead b (is_none (order c b))))) r) some_c
      ∙ ap (λ t. led takes (cond (takes c b || t) (lead c false) (lead b (is_none (order c b)))) r) some_b
      ∙ by (takes c b) (is_some (order c b)) refl
      ∙ sym (both r (takes c b) refl (is_null r) refl (takes r c) refl)
    where
      by : (t s : Bool) → is_some (order c b) ≡ s → led takes (cond (t || false) (lead c false) (lead b (is_none (order c b)))) r ≡ cond t (better takes c r) (cond (is_some (order c b)) (better takes b r) b)
      by true s o = refl
      by false true o = ap (λ e. cond e b (better takes b r)) (none_some (order c b) true o) ∙ ap (λ e. cond e (better takes b r) b) (sym o)
      by false false o = ap (λ e. cond e b (better takes b r)) (none_some (order c b) false o) ∙ ap (λ e. cond e (better takes b r) b) (sym o)

or_true : (t : Bool) → (t || true) ≡ true
or_true true = refl
or_true false = refl

-- from NULL on
step_first : (takes : Cell → Cell → Bool) (c r : Cell) → is_null c ≡ false → led takes (lead_after (takes c cell.Null) (lead cell.Null false) c) r ≡ better takes cell.Null (better takes c r)
step_first takes c r some_c =
    ap (λ t. led takes (cond t (lead cell.Null false) (cond (takes c cell.Null || true) (lead c false) (lead cell.Null (is_none (order c cell.Null))))) r) some_c
    ∙ ap (λ t. led takes (cond t (lead c false) (lead cell.Null (is_none (order c cell.Null)))) r) (or_true (takes c cell.Null))

step_open : (takes : Cell → Cell → Bool) → Takes takes → (b c r : Cell) → is_null c ≡ false → led takes (lead_after (takes c b) (lead b false) c) r ≡ better takes b (better takes c r)
step_open takes laws cell.Null c r some_c = step_first takes c r some_c
step_open takes laws (cell.Long x) c r some_c = step_some takes laws (cell.Long x) c refl some_c r
step_open takes laws (cell.Bool x) c r some_c = step_some takes laws (cell.Bool x) c refl some_c r
step_open takes laws (cell.Text x) c r some_c = step_some takes laws (cell.Text x) c refl some_c r
step_open takes laws (cell.Time x) c r some_c = step_some takes laws (cell.Time x) c refl some_c r

step : (takes : Cell → Cell → Bool) → Takes takes → (b : Cell) (ended : Bool) (c r : Cell) → led takes (lead_after (takes c b) (lead b ended) c) r ≡ led takes (lead b ended) (better takes c r)
step takes laws b true c r = refl
step takes laws b false cell.Null r = refl
step takes laws b false (cell.Long x) r = step_open takes laws b (cell.Long x) r refl
step takes laws b false (cell.Bool x) r = step_open takes laws b (cell.Bool x) r refl
step takes laws b false (cell.Text x) r = step_open takes laws b (cell.Text x) r refl
step takes laws b false (cell.Time x) r = step_open takes laws b (cell.Time x) r refl

-- what is kept of some cells is the best of them
pub best_of : (takes : Cell → Cell → Bool) → Takes takes → (l : Leading) (cs : List Cell) → (fold (λ l c. lead_after (takes c l.best) l c) l cs).best ≡ led takes l (best takes cs)
best_of takes laws l [] = by l.best l.ended
  where
    by : (b : Cell) (ended : Bool) → b ≡ cond ended b (better takes b cell.Null)
    by b true = refl
    by b false = sym (better_none takes b)
best_of takes laws l (c ∷ cs) = best_of takes laws (lead_after (takes c l.best) l c) cs ∙ step takes laws l.best l.ended c (best takes cs)
