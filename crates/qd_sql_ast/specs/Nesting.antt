-- How deep an expression nests: by recursion on the rules of the grammar, from how deep their parts do.
use Rattle.std.specs.Prelude.{ℕ, ◌+◌, max, List, [], ◌∷◌, ◌++◌, length, map, Option, Some, None}
use Rattle.std.specs.List.{flat_map}
use Rattle.qd_sql_ast.specs.declared.tree.Check.{Check}
use Rattle.qd_sql_ast.specs.declared.tree.Prime.{Prime}
use Rattle.qd_sql_ast.specs.declared.tree.AddTerm.{AddTerm}
use Rattle.qd_sql_ast.specs.declared.tree.AndNeg.{AndNeg}
use Rattle.qd_sql_ast.specs.declared.tree.Conj.{Conj}
use Rattle.qd_sql_ast.specs.declared.tree.Expr.{Expr}
use Rattle.qd_sql_ast.specs.declared.tree.MulSigned.{MulSigned}
use Rattle.qd_sql_ast.specs.declared.tree.Neg.{Neg}
use Rattle.qd_sql_ast.specs.declared.tree.OrConj.{OrConj}
use Rattle.qd_sql_ast.specs.declared.tree.Plus.{Plus}
use Rattle.qd_sql_ast.specs.declared.tree.Signed.{Signed}
use Rattle.qd_sql_ast.specs.declared.tree.Term.{Term}
use Rattle.qd_sql_ast.specs.declared.tree.Test.{Test}
use Rattle.qd_sql_ast.specs.declared.tree.Filter.{Filter}
use Rattle.qd_sql_ast.specs.declared.tree.Item.{Item}
use Rattle.qd_sql_ast.specs.declared.tree.Selected.{Selected}
use Rattle.qd_sql_ast.specs.declared.tree.Selected.TheVariants as select
use Rattle.qd_sql_ast.specs.declared.tree.Shown.{Shown}
use Rattle.qd_sql_ast.specs.declared.tree.Shown.TheVariants as shows
use Rattle.qd_sql_ast.specs.declared.tree.Stmt.{Stmt}
use Rattle.qd_sql_ast.specs.declared.tree.Stmt.TheVariants as is
use Rattle.qd_sql_ast.specs.declared.tree.Check.TheOpen.{Check-F, Prime-F, AddTerm-F, AndNeg-F, Conj-F, Expr-F, MulSigned-F, Neg-F, OrConj-F, Plus-F, Signed-F, Term-F, Test-F}
use Rattle.qd_sql_ast.specs.Folds.{Rules, made_of_check, made_of_prime, made_of_add_term, made_of_and_neg, made_of_conj, made_of_expr, made_of_mul_signed, made_of_neg, made_of_or_conj, made_of_plus, made_of_signed, made_of_term, made_of_test}

-- the greatest of some depths
abbrev pub deepest : List ℕ → ℕ
deepest [] = 0
deepest (n ∷ ns) = max n (deepest ns)

-- how many levels the words or signs at these offsets are
abbrev pub Words : Type 0
Words = List ℕ → ℕ

abbrev pub Of : (Type 0 → Type 0 → Type 0 → Type 0 → Type 0 → Type 0 → Type 0 → Type 0 → Type 0 → Type 0 → Type 0 → Type 0 → Type 0 → Type 0) → Type 0
Of Rule = Rule ℕ ℕ ℕ ℕ ℕ ℕ ℕ ℕ ℕ ℕ ℕ ℕ ℕ

-- a bracket is one level above what stands in it
abbrev pub prime_step : Of Prime-F → ℕ
prime_step (Prime-F.Bracket n) = n + 1
prime_step _ = 0

abbrev pub check_step : Of Check-F → ℕ
check_step (Check-F.Compare op place n) = n
check_step _ = 0

abbrev pub signed_step : Words → Of Signed-F → ℕ
signed_step words s = words s.minuses + s.prime

abbrev pub mul_signed_step : Of MulSigned-F → ℕ
mul_signed_step m = m.signed

abbrev pub term_step : Of Term-F → ℕ
term_step t = max t.first (deepest t.more)

abbrev pub add_term_step : Of AddTerm-F → ℕ
add_term_step a = a.term

abbrev pub plus_step : Of Plus-F → ℕ
plus_step p = max p.first (deepest p.more)

abbrev pub test_step : Of Test-F → ℕ
test_step t = max t.left t.check

abbrev pub neg_step : Words → Of Neg-F → ℕ
neg_step words n = words n.nots + n.test

abbrev pub and_neg_step : Of AndNeg-F → ℕ
and_neg_step a = a.neg

abbrev pub conj_step : Of Conj-F → ℕ
conj_step c = max c.first (deepest c.more)

abbrev pub or_conj_step : Of OrConj-F → ℕ
or_conj_step o = o.conj

abbrev pub expr_step : Of Expr-F → ℕ
expr_step e = max e.first (deepest e.more)

-- ---- the whole, for each rule

abbrev pub rules : Words → Rules ℕ ℕ ℕ ℕ ℕ ℕ ℕ ℕ ℕ ℕ ℕ ℕ ℕ
rules words = record {
  check = check_step;
  prime = prime_step;
  add_term = add_term_step;
  and_neg = and_neg_step;
  conj = conj_step;
  expr = expr_step;
  mul_signed = mul_signed_step;
  neg = neg_step words;
  or_conj = or_conj_step;
  plus = plus_step;
  signed = signed_step words;
  term = term_step;
  test = test_step;
}

abbrev pub depth_check : Words → Check → ℕ
depth_check words x = made_of_check (rules words) x

abbrev pub depth_prime : Words → Prime → ℕ
depth_prime words x = made_of_prime (rules words) x

abbrev pub depth_add_term : Words → AddTerm → ℕ
depth_add_term words x = made_of_add_term (rules words) x

abbrev pub depth_and_neg : Words → AndNeg → ℕ
depth_and_neg words x = made_of_and_neg (rules words) x

abbrev pub depth_conj : Words → Conj → ℕ
depth_conj words x = made_of_conj (rules words) x

abbrev pub depth_expr : Words → Expr → ℕ
depth_expr words x = made_of_expr (rules words) x

abbrev pub depth_mul_signed : Words → MulSigned → ℕ
depth_mul_signed words x = made_of_mul_signed (rules words) x

abbrev pub depth_neg : Words → Neg → ℕ
depth_neg words x = made_of_neg (rules words) x

abbrev pub depth_or_conj : Words → OrConj → ℕ
depth_or_conj words x = made_of_or_conj (rules words) x

abbrev pub depth_plus : Words → Plus → ℕ
depth_plus words x = made_of_plus (rules words) x

abbrev pub depth_signed : Words → Signed → ℕ
depth_signed words x = made_of_signed (rules words) x

abbrev pub depth_term : Words → Term → ℕ
depth_term words x = made_of_term (rules words) x

abbrev pub depth_test : Words → Test → ℕ
depth_test words x = made_of_test (rules words) x

-- how deep brackets nest
abbrev pub brackets : Expr → ℕ
brackets e = depth_expr (λ places. 0) e

-- how deep brackets nest together with the NOTs and minuses in front of what stands in them
abbrev pub nesting : Expr → ℕ
nesting e = depth_expr length e

-- ---- the expressions of a statement

abbrev pub expressions_shown : Shown → List Expr
expressions_shown (shows.Count at) = []
expressions_shown (shows.Agg of at e) = e ∷ []
expressions_shown (shows.Expr e) = e ∷ []

abbrev pub expressions_selected : Option Selected → List Expr
expressions_selected None = []
expressions_selected (Some (select.All at)) = []
expressions_selected (Some (select.Items items)) = flat_map (λ (i : Item). expressions_shown i.shown) items

abbrev pub expressions_tested : Option Filter → List Expr
expressions_tested None = []
expressions_tested (Some f) = f.test ∷ []

abbrev pub expressions : Stmt → List Expr
expressions (is.Query q) = expressions_selected q.selected ++ expressions_tested q.filter
expressions (is.Create c) = []
expressions (is.Insert i) = []
expressions (is.Alter a) = []
expressions (is.Show name place) = []

-- how deep brackets nest in any of them
abbrev pub brackets_in : Stmt → ℕ
brackets_in s = deepest (map brackets (expressions s))
