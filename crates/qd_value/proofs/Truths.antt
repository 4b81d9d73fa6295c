-- The laws of tests.
use Rattle.std.proofs.Common.{◌≡◌, ◌≢◌, ℕ, ◌<◌, List, [], ◌∷◌, ◌++◌, map, refl, sym, ap, ◌∙◌, subst, true≢false}
use Rattle.std.specs.Prelude.{Bool, true, false, not, ◌&&◌, ◌||◌, ◌↔◌, IsTrue, ◌<ℤ◌, Some}
use Rattle.std.specs.List.{list_all, list_any}
use Rattle.std.specs.Ordering.{is_lt, is_le, is_gt, is_ge, is_some_and}
use Rattle.qd_base.specs.declared.cell.Cell.{Cell}
use Rattle.qd_base.specs.declared.cell.Cell.TheVariants as cell
use Rattle.qd_base.specs.Rows.{Row, cell_eq}
use Rattle.qd_value.specs.declared.bound.Comparison.{Comparison}
use Rattle.qd_value.specs.declared.bound.Comparison.TheVariants as asks
use Rattle.qd_value.specs.declared.bound.Bound.{Bound}
use Rattle.qd_value.specs.declared.bound.Bound.TheVariants as is
use Rattle.qd_value.specs.Cells.{Class, class_of, is_null, order, compares, is_true}
use Rattle.qd_value.specs.Value.{value, passes}
use Rattle.qd_value.specs.Laws.{TestsAreTruths, EqualityHasAnOpposite, OrderingsAreByClass, InIsManyEquals, NotTurnsAndAndOr, IsOrdering, equal, less_equal, greater_equal}
use Rattle.qd_value.proofs.Orders.{greater-turned, greater_equal-turned, ge-not_lt, at_most-split, numbers-ordered, times-ordered, truths-ordered, longer-ordered, difference-ordered, within-split, cells-equal, one-class, two-classes, unlike}
use Rattle.qd_value.proofs.Values.{value-literal, value-compare, value-in_list, value-in_interval, value-is_null, value-not, value-all, value-any}

true-cell : (c : Cell) → IsTrue (is_true c) ↔ (c ≡ cell.Bool true)
true-cell cell.Null = (λ h. absurd (true≢false (sym h)), λ e. ap is_true e)
true-cell (cell.Long x) = (λ h. absurd (true≢false (sym h)), λ e. ap is_true e)
true-cell (cell.Bool true) = (λ h. refl, λ e. refl)
true-cell (cell.Bool false) = (λ h. absurd (true≢false (sym h)), λ e. ap is_true e)
true-cell (cell.Text x) = (λ h. absurd (true≢false (sym h)), λ e. ap is_true e)
true-cell (cell.Time x) = (λ h. absurd (true≢false (sym h)), λ e. ap is_true e)

null-cell : (c : Cell) → IsTrue (is_null c) ↔ (c ≡ cell.Null)
null-cell cell.Null = (λ h. refl, λ e. refl)
null-cell (cell.Long x) = (λ h. absurd (true≢false (sym h)), λ e. ap is_null e)
null-cell (cell.Bool x) = (λ h. absurd (true≢false (sym h)), λ e. ap is_null e)
null-cell (cell.Text x) = (λ h. absurd (true≢false (sym h)), λ e. ap is_null e)
null-cell (cell.Time x) = (λ h. absurd (true≢false (sym h)), λ e. ap is_null e)

pub tests-are-truths : TestsAreTruths
tests-are-truths =
    record {
      where_true = λ e row. true-cell (value e row);
      null_fails = λ e row null. ap is_true null;
      all = value-all;
      any = value-any;
      opposite = value-not;
      null = λ x row. subst (λ t. IsTrue t ↔ (value x row ≡ cell.Null)) (sym (ap is_true (value-is_null x row))) (null-cell (value x row));
    }

-- a comparison passes where it holds
passes-compare : (op : Comparison) (x y : Bound) (row : Row) → passes (is.Compare op x y) row ≡ compares op (value x row) (value y row)
passes-compare op x y row = ap is_true (value-compare op x y row)

pub equality-has-an-opposite : EqualityHasAnOpposite
equality-has-an-opposite =
    record {
      where_one_value = λ x y row. subst (λ t. IsTrue t ↔ (value x row ≡ value y row)) (sym (passes-compare asks.Equal x y row)) (cells-equal (value x row) (value y row));
      opposite = λ x y row. passes-compare asks.NotEqual x y row ∙ ap not (sym (passes-compare asks.Equal x y row));
    }

null-left : (op : Comparison) (c : Cell) → IsOrdering op → compares op cell.Null c ≡ false
null-left asks.Equal c h = absurd h
null-left asks.NotEqual c h = absurd h
null-left asks.Less c h = refl
null-left asks.LessEqual c h = refl
null-left asks.Greater c h = refl
null-left asks.GreaterEqual c h = refl

order-null : (c : Cell) → order c cell.Null ≡ order cell.Null cell.Null
order-null cell.Null = refl
order-null (cell.Long x) = refl
order-null (cell.Bool x) = refl
order-null (cell.Text x) = refl
order-null (cell.Time x) = refl

null-right : (op : Comparison) (c : Cell) → IsOrdering op → compares op c cell.Null ≡ false
null-right asks.Equal c h = absurd h
null-right asks.NotEqual c h = absurd h
null-right asks.Less c h = ap (is_some_and is_lt) (order-null c)
null-right asks.LessEqual c h = ap (is_some_and is_le) (order-null c)
null-right asks.Greater c h = ap (is_some_and is_gt) (order-null c)
null-right asks.GreaterEqual c h = ap (is_some_and is_ge) (order-null c)

no-ordering : (op : Comparison) (a b : Cell) (c d : Class) → c ≢ d → IsOrdering op → class_of a ≡ Some c → class_of b ≡ Some d → compares op a b ≡ false
no-ordering asks.Equal a b c d apart h e g = absurd h
no-ordering asks.NotEqual a b c d apart h e g = absurd h
no-ordering asks.Less a b c d apart h e g = two-classes is_lt a b c d apart e g
no-ordering asks.LessEqual a b c d apart h e g = two-classes is_le a b c d apart e g
no-ordering asks.Greater a b c d apart h e g = two-classes is_gt a b c d apart e g
no-ordering asks.GreaterEqual a b c d apart h e g = two-classes is_ge a b c d apart e g

-- a comparison of two expressions whose values are known
passes-at : (op : Comparison) (x y : Bound) (row : Row) (a b : Cell) → value x row ≡ a → value y row ≡ b → passes (is.Compare op x y) row ≡ compares op a b
passes-at op x y row a b d e = passes-compare op x y row ∙ (λ i. compares op (d i) (e i))

pub orderings-are-by-class : OrderingsAreByClass
orderings-are-by-class =
    record {
      null_left = λ op x y row ordering null. passes-at op x y row cell.Null (value y row) null refl ∙ null-left op (value y row) ordering;
      null_right = λ op x y row ordering null. passes-at op x y row (value x row) cell.Null refl null ∙ null-right op (value x row) ordering;
      numbers = λ x y row a b d e. subst (λ t. IsTrue t ↔ (a <ℤ b)) (sym (passes-at asks.Less x y row (cell.Long a) (cell.Long b) d e)) (numbers-ordered a b);
      times = λ x y row a b d e. subst (λ t. IsTrue t ↔ (a < b)) (sym (passes-at asks.Less x y row (cell.Time a) (cell.Time b) d e)) (times-ordered a b);
      truths = λ x y row a b d e. passes-at asks.Less x y row (cell.Bool a) (cell.Bool b) d e ∙ truths-ordered a b;
      longer_text = λ x y row front rest b d e. passes-at asks.Less x y row (cell.Text front) (cell.Text (front ++ b ∷ rest)) d e ∙ ap is_lt (longer-ordered front rest b);
      first_difference = λ x y row front rest more a b l d e.
          passes-at asks.Less x y row (cell.Text (front ++ a ∷ rest)) (cell.Text (front ++ b ∷ more)) d e ∙ ap is_lt (difference-ordered front rest more a b l);
      at_most = λ x y row.
          passes-compare asks.LessEqual x y row ∙ at_most-split (value x row) (value y row)
          ∙ (λ i. sym (passes-compare asks.Less x y row) i || (sym (passes-compare asks.Equal x y row) i && not (is_null (value x row))));
      turned = λ x y row. passes-compare asks.Greater x y row ∙ greater-turned (value x row) (value y row) ∙ sym (passes-compare asks.Less y x row);
      turned_at_most = λ x y row. passes-compare asks.GreaterEqual x y row ∙ greater_equal-turned (value x row) (value y row) ∙ sym (passes-compare asks.LessEqual y x row);
      opposite = λ c x y row d e.
          passes-compare asks.GreaterEqual x y row ∙ ge-not_lt (order (value x row) (value y row)) (one-class (value x row) (value y row) c d e)
          ∙ ap not (sym (passes-compare asks.Less x y row));
      two_classes = λ op c d x y row apart ordering e g. (
        passes-compare op x y row ∙ no-ordering op (value x row) (value y row) c d apart ordering e g,
        passes-compare asks.Equal x y row ∙ unlike (value x row) (value y row) c d apart e g,
      );
    }

any-equal : (x : Bound) (list : List Cell) (row : Row) → list_any (cell_eq (value x row)) list ≡ list_any (λ e. passes e row) (map (λ c. equal x (is.Literal c)) list)
any-equal x [] row = refl
any-equal x (c ∷ list) row =
    λ i. sym (passes-at asks.Equal x (is.Literal c) row (value x row) c refl (value-literal c row)) i || any-equal x list row i

in-list : (x : Bound) (list : List Cell) (row : Row) → value (is.InList x list) row ≡ value (is.Any (map (λ c. equal x (is.Literal c)) list)) row
in-list x list row = value-in_list x list row ∙ ap cell.Bool (any-equal x list row) ∙ sym (value-any (map (λ c. equal x (is.Literal c)) list) row)

in-interval : (x : Bound) (first last : ℕ) (row : Row)
    → value (is.InInterval x first last) row ≡ value (is.All (greater_equal x (is.Literal (cell.Time first)) ∷ less_equal x (is.Literal (cell.Time last)) ∷ [])) row
in-interval x first last row =
    let low = passes-at asks.GreaterEqual x (is.Literal (cell.Time first)) row (value x row) (cell.Time first) refl (value-literal (cell.Time first) row) in
    let high = passes-at asks.LessEqual x (is.Literal (cell.Time last)) row (value x row) (cell.Time last) refl (value-literal (cell.Time last) row) in
    value-in_interval x first last row ∙ ap cell.Bool (within-split first last (value x row)) ∙ (λ i. cell.Bool (sym low i && (sym high i && true)))
    ∙ sym (value-all (greater_equal x (is.Literal (cell.Time first)) ∷ less_equal x (is.Literal (cell.Time last)) ∷ []) row)

pub in-is-many-equals : InIsManyEquals
in-is-many-equals = record { two = λ x a b row. in-list x (a ∷ b ∷ []) row; any_number = in-list; interval = in-interval }

passes-not : (x : Bound) (row : Row) → passes (is.Not x) row ≡ not (passes x row)
passes-not x row = ap is_true (value-not x row)

not-and : (a b : Bool) → not (a && b) ≡ (not a || not b)
not-and true b = refl
not-and false b = refl

not-or : (a b : Bool) → not (a || b) ≡ (not a && not b)
not-or true b = refl
not-or false b = refl

not-not : (a : Bool) → not (not (not a)) ≡ not a
not-not true = refl
not-not false = refl

not-all : (xs : List Bound) (row : Row) → not (list_all (λ e. passes e row) xs) ≡ list_any (λ e. passes e row) (map is.Not xs)
not-all [] row = refl
not-all (x ∷ xs) row = not-and (passes x row) (list_all (λ e. passes e row) xs) ∙ (λ i. sym (passes-not x row) i || not-all xs row i)

not-any : (xs : List Bound) (row : Row) → not (list_any (λ e. passes e row) xs) ≡ list_all (λ e. passes e row) (map is.Not xs)
not-any [] row = refl
not-any (x ∷ xs) row = not-or (passes x row) (list_any (λ e. passes e row) xs) ∙ (λ i. sym (passes-not x row) i && not-any xs row i)

pub not-turns-and-and-or : NotTurnsAndAndOr
not-turns-and-and-or =
    record {
      all = λ xs row. value-not (is.All xs) row ∙ ap (λ c. cell.Bool (not (is_true c))) (value-all xs row) ∙ ap cell.Bool (not-all xs row) ∙ sym (value-any (map is.Not xs) row);
      any = λ xs row. value-not (is.Any xs) row ∙ ap (λ c. cell.Bool (not (is_true c))) (value-any xs row) ∙ ap cell.Bool (not-any xs row) ∙ sym (value-all (map is.Not xs) row);
      null = λ x row null. value-not x row ∙ ap (λ c. cell.Bool (not (is_true c))) null;
      thrice = λ x row.
          value-not (is.Not (is.Not x)) row ∙ ap (λ t. cell.Bool (not t)) (passes-not (is.Not x) row ∙ ap not (passes-not x row)) ∙ ap cell.Bool (not-not (passes x row)) ∙ sym (value-not x row);
    }
