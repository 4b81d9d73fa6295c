-- How two cells stand to each other.
use Rattle.std.proofs.Common.{◌≡◌, ◌≢◌, ℕ, ◌<◌, List, [], ◌∷◌, ◌++◌, refl, sym, ap, ◌∙◌, subst, arith, true≢false}
use Rattle.std.specs.Prelude.{Bool, true, false, not, ◌&&◌, ◌||◌, ◌↔◌, IsTrue, Option, Some, None, unwrap_or, is_some, nat_le, nat_lt, ◌==◌, cond, int_lt, ℤ, ◌<ℤ◌}
use lib.Dec.{T, ltb→lt, lt→ltb}
use Rattle.std.proofs.lemmas.Bool.Decides.{nat_tests, Decides-eqb, Decides-int_eq}
use Rattle.std.proofs.lemmas.Slice.Eq.{slice_eq-Decides}
use Rattle.std.specs.Cmp.{unsigned_ties, bool_cmp_total, tied_itself}
use Rattle.std.specs.Cmp.Lexicographic.{slice_cmp, lists_ties}
use Rattle.std.specs.declared.cmp.Ordering.{Ordering}
use Rattle.std.specs.Ordering.{nat_cmp, int_cmp, bool_cmp, is_lt, is_le, is_gt, is_ge, is_eq, is_some_and, ordering_reverse, ordering_then}
use Rattle.std.proofs.Common.{Less, Equal, Greater}
use Rattle.std.specs.Option.{option_map}
use Rattle.std.proofs.lemmas.Cmp.{nat_cmp_total, int_cmp_total, nat_list_cmp_total}
use Rattle.qd_base.specs.declared.cell.Cell.{Cell}
use Rattle.qd_base.specs.declared.cell.Cell.TheVariants as cell
use Rattle.qd_base.specs.Rows.{cell_eq}
use Rattle.qd_value.specs.Cells.{Class, number, truth, text, time, class_of, is_null, order, is_within}

and-true : (b : Bool) → (b && true) ≡ b
and-true true = refl
and-true false = refl

-- an order is turned where its sides are
pub order-turned : (a b : Cell) → order a b ≡ option_map ordering_reverse (order b a)
order-turned cell.Null cell.Null = refl
order-turned (cell.Long x) (cell.Long y) = ap Some (int_cmp_total.antisymm x y)
order-turned (cell.Bool x) (cell.Bool y) = ap Some (bool_cmp_total.antisymm x y)
order-turned (cell.Text x) (cell.Text y) = ap Some (nat_list_cmp_total.antisymm x y)
order-turned (cell.Time x) (cell.Time y) = ap Some (nat_cmp_total.antisymm x y)
order-turned _ _ = refl

gt-turned : (o : Option Ordering) → is_some_and is_gt (option_map ordering_reverse o) ≡ is_some_and is_lt o
gt-turned None = refl
gt-turned (Some Less) = refl
gt-turned (Some Equal) = refl
gt-turned (Some Greater) = refl

ge-turned : (o : Option Ordering) → is_some_and is_ge (option_map ordering_reverse o) ≡ is_some_and is_le o
ge-turned None = refl
ge-turned (Some Less) = refl
ge-turned (Some Equal) = refl
ge-turned (Some Greater) = refl

pub greater-turned : (a b : Cell) → is_some_and is_gt (order a b) ≡ is_some_and is_lt (order b a)
greater-turned a b = ap (is_some_and is_gt) (order-turned a b) ∙ gt-turned (order b a)

pub greater_equal-turned : (a b : Cell) → is_some_and is_ge (order a b) ≡ is_some_and is_le (order b a)
greater_equal-turned a b = ap (is_some_and is_ge) (order-turned a b) ∙ ge-turned (order b a)

same_class : Option Class → Option Class → Bool
same_class (Some number) (Some number) = true
same_class (Some truth) (Some truth) = true
same_class (Some text) (Some text) = true
same_class (Some time) (Some time) = true
same_class _ _ = false

class-itself : (c : Class) → same_class (Some c) (Some c) ≡ true
unfolding same_class
class-itself number = refl
class-itself truth = refl
class-itself text = refl
class-itself time = refl

class-apart : (c d : Class) → c ≢ d → same_class (Some c) (Some d) ≡ false
unfolding same_class
class-apart number number apart = absurd (apart refl)
class-apart truth truth apart = absurd (apart refl)
class-apart text text apart = absurd (apart refl)
class-apart time time apart = absurd (apart refl)
class-apart _ _ apart = refl

-- values stand in an order where they are of one class
ordered : (a b : Cell) → is_some (order a b) ≡ same_class (class_of a) (class_of b)
unfolding same_class
ordered cell.Null cell.Null = refl
ordered (cell.Long x) (cell.Long y) = refl
ordered (cell.Bool x) (cell.Bool y) = refl
ordered (cell.Text x) (cell.Text y) = refl
ordered (cell.Time x) (cell.Time y) = refl
ordered _ _ = refl

pub one-class : (a b : Cell) (c : Class) → class_of a ≡ Some c → class_of b ≡ Some c → is_some (order a b) ≡ true
one-class a b c d e = ordered a b ∙ (λ i. same_class (d i) (e i)) ∙ class-itself c

no-order : (f : Ordering → Bool) (o : Option Ordering) → is_some o ≡ false → is_some_and f o ≡ false
no-order f None e = refl
no-order f (Some r) e = absurd (true≢false e)

pub two-classes : (f : Ordering → Bool) (a b : Cell) (c d : Class) → c ≢ d → class_of a ≡ Some c → class_of b ≡ Some d → is_some_and f (order a b) ≡ false
two-classes f a b c d apart e g = no-order f (order a b) (ordered a b ∙ (λ i. same_class (e i) (g i)) ∙ class-apart c d apart)

pub ge-not_lt : (o : Option Ordering) → is_some o ≡ true → is_some_and is_ge o ≡ not (is_some_and is_lt o)
ge-not_lt None some = some
ge-not_lt (Some Less) some = refl
ge-not_lt (Some Equal) some = refl
ge-not_lt (Some Greater) some = refl

bools-tie : (x y : Bool) → (cell_eq (cell.Bool x) (cell.Bool y) && true) ≡ is_eq (bool_cmp x y)
bools-tie true true = refl
bools-tie true false = refl
bools-tie false true = refl
bools-tie false false = refl

-- two cells are level in their order exactly where they are one value
level : (a b : Cell) → (cell_eq a b && not (is_null a)) ≡ is_some_and is_eq (order a b)
level cell.Null cell.Null = refl
level (cell.Long x) (cell.Long y) = and-true (cell_eq (cell.Long x) (cell.Long y))
level (cell.Bool x) (cell.Bool y) = bools-tie x y
level (cell.Text x) (cell.Text y) = and-true (cell_eq (cell.Text x) (cell.Text y)) ∙ lists_ties nat_cmp unsigned_ties x y
level (cell.Time x) (cell.Time y) = and-true (cell_eq (cell.Time x) (cell.Time y)) ∙ unsigned_ties x y
level _ _ = refl

le-split : (o : Option Ordering) → is_some_and is_le o ≡ (is_some_and is_lt o || is_some_and is_eq o)
le-split None = refl
le-split (Some Less) = refl
le-split (Some Equal) = refl
le-split (Some Greater) = refl

pub at_most-split : (a b : Cell) → is_some_and is_le (order a b) ≡ (is_some_and is_lt (order a b) || (cell_eq a b && not (is_null a)))
at_most-split a b = le-split (order a b) ∙ ap (λ t. is_some_and is_lt (order a b) || t) (sym (level a b))

lt-int : (a b : ℤ) → is_lt (int_cmp a b) ≡ int_lt a b
lt-int a b = by (int_lt a b) (int_lt b a)
  where
    by : (t u : Bool) → is_lt (cond t Less (cond u Greater Equal)) ≡ t
    by true u = refl
    by false true = refl
    by false false = refl

from-T : (b : Bool) → T b → b ≡ true
from-T true h = refl
from-T false h = absurd h

to-T : (b : Bool) → b ≡ true → T b
to-T true e = tt
to-T false e = absurd (true≢false (sym e))

pub numbers-ordered : (a b : ℤ) → IsTrue (is_lt (int_cmp a b)) ↔ (a <ℤ b)
numbers-ordered a b = (λ h. record { lt = to-T _ (sym (lt-int a b) ∙ h) }, λ h. lt-int a b ∙ from-T _ h.lt)

lt-nat : (a b : ℕ) → is_lt (nat_cmp a b) ≡ nat_lt a b
lt-nat a b = by (nat_lt a b) (a == b)
  where
    by : (t u : Bool) → is_lt (cond t Less (cond u Equal Greater)) ≡ t
    by true u = refl
    by false true = refl
    by false false = refl

pub times-ordered : (a b : ℕ) → IsTrue (is_lt (nat_cmp a b)) ↔ (a < b)
times-ordered a b = (λ h. ltb→lt a b (to-T _ (sym (lt-nat a b) ∙ h)), λ h. lt-nat a b ∙ from-T _ (lt→ltb a b h))

pub truths-ordered : (a b : Bool) → is_lt (bool_cmp a b) ≡ (not a && b)
truths-ordered true true = refl
truths-ordered true false = refl
truths-ordered false true = refl
truths-ordered false false = refl

pub longer-ordered : (front rest : List ℕ) (b : ℕ) → slice_cmp nat_cmp front (front ++ b ∷ rest) ≡ Less
longer-ordered [] rest b = refl
longer-ordered (x ∷ front) rest b = ap (λ o. ordering_then o (slice_cmp nat_cmp front (front ++ b ∷ rest))) (tied_itself nat_cmp_total x) ∙ longer-ordered front rest b

less-is : (a b : ℕ) → a < b → nat_cmp a b ≡ Less
less-is a b less = grind (arith, nat_tests)

pub difference-ordered : (front rest more : List ℕ) (a b : ℕ) → a < b → slice_cmp nat_cmp (front ++ a ∷ rest) (front ++ b ∷ more) ≡ Less
difference-ordered [] rest more a b less = ap (λ o. ordering_then o (slice_cmp nat_cmp rest more)) (less-is a b less)
difference-ordered (x ∷ front) rest more a b less =
    ap (λ o. ordering_then o (slice_cmp nat_cmp (front ++ a ∷ rest) (front ++ b ∷ more))) (tied_itself nat_cmp_total x) ∙ difference-ordered front rest more a b less

time-within : (t lo hi : ℕ) → (nat_le lo t && nat_le t hi) ≡ (is_ge (nat_cmp t lo) && (is_le (nat_cmp t hi) && true))
time-within t lo hi = grind (arith, nat_tests)

pub within-split : (lo hi : ℕ) (c : Cell) → is_within lo hi c ≡ (is_some_and is_ge (order c (cell.Time lo)) && (is_some_and is_le (order c (cell.Time hi)) && true))
within-split lo hi cell.Null = refl
within-split lo hi (cell.Long x) = refl
within-split lo hi (cell.Bool x) = refl
within-split lo hi (cell.Text x) = refl
within-split lo hi (cell.Time t) = time-within t lo hi

one-value : (a b : Cell) → IsTrue (cell_eq a b) → a ≡ b
one-value cell.Null cell.Null h = refl
one-value (cell.Long x) (cell.Long y) h = ap cell.Long ((Decides-int_eq x y).0 h)
one-value (cell.Bool true) (cell.Bool true) h = refl
one-value (cell.Bool false) (cell.Bool false) h = refl
one-value (cell.Text x) (cell.Text y) h = ap cell.Text ((slice_eq-Decides Decides-eqb x y _ refl).0 h)
one-value (cell.Time x) (cell.Time y) h = ap cell.Time ((Decides-eqb x y).0 h)
one-value _ _ h = absurd (true≢false (sym h))

itself : (a : Cell) → IsTrue (cell_eq a a)
itself cell.Null = refl
itself (cell.Long x) = (Decides-int_eq x x).1 refl
itself (cell.Bool true) = refl
itself (cell.Bool false) = refl
itself (cell.Text x) = (slice_eq-Decides Decides-eqb x x _ refl).1 refl
itself (cell.Time x) = (Decides-eqb x x).1 refl

pub unlike : (a b : Cell) (c d : Class) → c ≢ d → class_of a ≡ Some c → class_of b ≡ Some d → cell_eq a b ≡ false
unlike a b c d apart e g = by (cell_eq a b) (one-value a b)
  where
    by : (t : Bool) → (IsTrue t → a ≡ b) → t ≡ false
    by true f = absurd (apart (ap (λ o. unwrap_or o c) (sym e ∙ ap class_of (f refl) ∙ g)))
    by false f = refl

pub cells-equal : (a b : Cell) → IsTrue (cell_eq a b) ↔ (a ≡ b)
cells-equal a b = (one-value a b, λ e. subst (λ c. IsTrue (cell_eq a c)) e (itself a))
