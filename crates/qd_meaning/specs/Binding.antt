-- How an expression of a statement becomes a tree over the columns of a scope: by recursion on the rules of the grammar, from what
-- its parts become.
use Rattle.std.specs.Prelude.{ℕ, true, false, List, [], ◌∷◌, Option, Some, None, pos}
use Rattle.qd_base.specs.declared.schema.Col.{Col}
use Rattle.qd_sql_ast.specs.declared.tree.AddOp.{AddOp}
use Rattle.qd_sql_ast.specs.declared.tree.AddOp.TheVariants as add
use Rattle.qd_sql_ast.specs.declared.tree.MulOp.{MulOp}
use Rattle.qd_sql_ast.specs.declared.tree.MulOp.TheVariants as mul
use Rattle.qd_sql_ast.specs.declared.tree.Cmp.{Cmp}
use Rattle.qd_sql_ast.specs.declared.tree.Cmp.TheVariants as compare
use Rattle.qd_sql_ast.specs.declared.tree.Check.{Check}
use Rattle.qd_sql_ast.specs.declared.tree.Prime.{Prime}
use Rattle.qd_sql_ast.specs.declared.tree.AddTerm.{AddTerm}
use Rattle.qd_sql_ast.specs.declared.tree.AndNeg.{AndNeg}
use Rattle.qd_sql_ast.specs.declared.tree.Conj.{Conj}
use Rattle.qd_sql_ast.specs.declared.tree.Expr.{Expr}
use Rattle.qd_sql_ast.specs.declared.tree.MulSigned.{MulSigned}
use Rattle.qd_sql_ast.specs.declared.tree.Neg.{Neg}
use Rattle.qd_sql_ast.specs.declared.tree.OrConj.{OrConj}
use Rattle.qd_sql_ast.specs.declared.tree.Plus.{Plus}
use Rattle.qd_sql_ast.specs.declared.tree.Signed.{Signed}
use Rattle.qd_sql_ast.specs.declared.tree.Term.{Term}
use Rattle.qd_sql_ast.specs.declared.tree.Test.{Test}
use Rattle.qd_sql_ast.specs.declared.tree.Check.TheOpen.{Check-F, Prime-F, AddTerm-F, AndNeg-F, Conj-F, Expr-F, MulSigned-F, Neg-F, OrConj-F, Plus-F, Signed-F, Term-F, Test-F}
use Rattle.qd_sql_ast.specs.declared.tree.Check.TheFolds.{fold-Check, fold-Prime, fold-AddTerm, fold-AndNeg, fold-Conj, fold-Expr, fold-MulSigned, fold-Neg, fold-OrConj, fold-Plus, fold-Signed, fold-Term, fold-Test}
use Rattle.qd_value.specs.declared.bound.Arithmetic.{Arithmetic}
use Rattle.qd_value.specs.declared.bound.Arithmetic.TheVariants as does
use Rattle.qd_value.specs.declared.bound.Comparison.{Comparison}
use Rattle.qd_value.specs.declared.bound.Comparison.TheVariants as asks
use Rattle.qd_value.specs.declared.bound.Bound.TheVariants as is
use Rattle.qd_meaning.specs.declared.refusal.Refusal.{Refusal}
use Rattle.qd_meaning.specs.Scopes.{Scope, Resolved, resolved}
use Rattle.qd_meaning.specs.Typing.{Typed, Part, Link, literal, constant_null, constant_truth, constant_number, constant_text, negated, chained, compared, in_list, in_text, is_null, opposite, not_of, joined_by, plain_column}

abbrev pub add_op : AddOp → Arithmetic
add_op add.Plus = does.Plus
add_op add.Minus = does.Minus

abbrev pub mul_op : MulOp → Arithmetic
mul_op mul.Times = does.Times
mul_op mul.Divide = does.Divide
mul_op mul.Remainder = does.Remainder

abbrev pub comparison_of : Cmp → Comparison
comparison_of compare.Equal = asks.Equal
comparison_of compare.NotEqual = asks.NotEqual
comparison_of compare.Less = asks.Less
comparison_of compare.LessEqual = asks.LessEqual
comparison_of compare.Greater = asks.Greater
comparison_of compare.GreaterEqual = asks.GreaterEqual

-- what a test asks of its left side
abbrev pub Asking : Type 0
Asking = Typed → Typed

-- a name that stands for no column goes with each class
abbrev pub column_or_null : Option (ℕ × Col) → List Refusal → Typed
column_or_null None faults = record (literal constant_null) { faults = faults }
column_or_null (Some c) faults = record (plain_column c) { faults = faults }

abbrev pub named_column : Resolved → Typed
named_column r = column_or_null r.column r.faults

-- the word or sign nearest to what stands behind it comes first
abbrev pub behind_all : (Typed → ℕ → Typed) → Typed → List ℕ → Typed
behind_all one x [] = x
behind_all one x (place ∷ places) = one (behind_all one x places) place

-- ---- one level of each rule, with what each part becomes in its place

abbrev pub prime_step : Scope → Prime-F Asking Typed Link Part Typed Typed Link Typed Part Typed Typed Typed Typed → Typed
prime_step scope (Prime-F.Number n) = literal (constant_number (pos n.value) false n.at)
prime_step scope (Prime-F.Text t) = literal (constant_text t.text t.at)
prime_step scope (Prime-F.True place) = literal (constant_truth true)
prime_step scope (Prime-F.False place) = literal (constant_truth false)
prime_step scope (Prime-F.Null place) = literal constant_null
prime_step scope (Prime-F.Column c) = named_column (resolved scope c)
prime_step scope (Prime-F.Bracket x) = x

abbrev pub signed_step : Signed-F Asking Typed Link Part Typed Typed Link Typed Part Typed Typed Typed Typed → Typed
signed_step s = behind_all negated s.prime s.minuses

abbrev pub mul_signed_step : MulSigned-F Asking Typed Link Part Typed Typed Link Typed Part Typed Typed Typed Typed → Link
mul_signed_step m = (mul_op m.op, m.at, m.signed)

abbrev pub term_step : Term-F Asking Typed Link Part Typed Typed Link Typed Part Typed Typed Typed Typed → Typed
term_step t = chained t.first t.more

abbrev pub add_term_step : AddTerm-F Asking Typed Link Part Typed Typed Link Typed Part Typed Typed Typed Typed → Link
add_term_step a = (add_op a.op, a.at, a.term)

abbrev pub plus_step : Plus-F Asking Typed Link Part Typed Typed Link Typed Part Typed Typed Typed Typed → Typed
plus_step p = chained p.first p.more

abbrev pub check_step : Check-F Asking Typed Link Part Typed Typed Link Typed Part Typed Typed Typed Typed → Asking
check_step Check-F.Nothing x = x
check_step (Check-F.Compare op place y) x = compared (comparison_of op) place x y
check_step (Check-F.InList place lits) x = in_list x place lits
check_step (Check-F.InText place t) x = in_text x place t.text t.at
check_step (Check-F.IsNull place) x = is_null x
check_step (Check-F.IsNotNull place) x = opposite (is_null x)

abbrev pub test_step : Test-F Asking Typed Link Part Typed Typed Link Typed Part Typed Typed Typed Typed → Typed
test_step t = t.check t.left

abbrev pub neg_step : Neg-F Asking Typed Link Part Typed Typed Link Typed Part Typed Typed Typed Typed → Typed
neg_step n = behind_all not_of n.test n.nots

abbrev pub and_neg_step : AndNeg-F Asking Typed Link Part Typed Typed Link Typed Part Typed Typed Typed Typed → Part
and_neg_step a = (a.at, a.neg)

abbrev pub conj_step : Conj-F Asking Typed Link Part Typed Typed Link Typed Part Typed Typed Typed Typed → Typed
conj_step c = joined_by is.All c.first c.more

abbrev pub or_conj_step : OrConj-F Asking Typed Link Part Typed Typed Link Typed Part Typed Typed Typed Typed → Part
or_conj_step o = (o.at, o.conj)

abbrev pub expr_step : Expr-F Asking Typed Link Part Typed Typed Link Typed Part Typed Typed Typed Typed → Typed
expr_step e = joined_by is.Any e.first e.more

-- ---- the whole, for each rule

abbrev pub typed_check : Scope → Check → Asking
typed_check scope x =
    fold-Check Asking Typed Link Part Typed Typed Link Typed Part Typed Typed Typed Typed
    check_step (prime_step scope) add_term_step and_neg_step conj_step expr_step mul_signed_step neg_step or_conj_step plus_step signed_step term_step test_step x

abbrev pub typed_prime : Scope → Prime → Typed
typed_prime scope x =
    fold-Prime Asking Typed Link Part Typed Typed Link Typed Part Typed Typed Typed Typed
    check_step (prime_step scope) add_term_step and_neg_step conj_step expr_step mul_signed_step neg_step or_conj_step plus_step signed_step term_step test_step x

abbrev pub typed_add_term : Scope → AddTerm → Link
typed_add_term scope x =
    fold-AddTerm Asking Typed Link Part Typed Typed Link Typed Part Typed Typed Typed Typed
    check_step (prime_step scope) add_term_step and_neg_step conj_step expr_step mul_signed_step neg_step or_conj_step plus_step signed_step term_step test_step x

abbrev pub typed_and_neg : Scope → AndNeg → Part
typed_and_neg scope x =
    fold-AndNeg Asking Typed Link Part Typed Typed Link Typed Part Typed Typed Typed Typed
    check_step (prime_step scope) add_term_step and_neg_step conj_step expr_step mul_signed_step neg_step or_conj_step plus_step signed_step term_step test_step x

abbrev pub typed_conj : Scope → Conj → Typed
typed_conj scope x =
    fold-Conj Asking Typed Link Part Typed Typed Link Typed Part Typed Typed Typed Typed
    check_step (prime_step scope) add_term_step and_neg_step conj_step expr_step mul_signed_step neg_step or_conj_step plus_step signed_step term_step test_step x

abbrev pub typed_mul_signed : Scope → MulSigned → Link
typed_mul_signed scope x =
    fold-MulSigned Asking Typed Link Part Typed Typed Link Typed Part Typed Typed Typed Typed
    check_step (prime_step scope) add_term_step and_neg_step conj_step expr_step mul_signed_step neg_step or_conj_step plus_step signed_step term_step test_step x

abbrev pub typed_neg : Scope → Neg → Typed
typed_neg scope x =
    fold-Neg Asking Typed Link Part Typed Typed Link Typed Part Typed Typed Typed Typed
    check_step (prime_step scope) add_term_step and_neg_step conj_step expr_step mul_signed_step neg_step or_conj_step plus_step signed_step term_step test_step x

abbrev pub typed_or_conj : Scope → OrConj → Part
typed_or_conj scope x =
    fold-OrConj Asking Typed Link Part Typed Typed Link Typed Part Typed Typed Typed Typed
    check_step (prime_step scope) add_term_step and_neg_step conj_step expr_step mul_signed_step neg_step or_conj_step plus_step signed_step term_step test_step x

abbrev pub typed_plus : Scope → Plus → Typed
typed_plus scope x =
    fold-Plus Asking Typed Link Part Typed Typed Link Typed Part Typed Typed Typed Typed
    check_step (prime_step scope) add_term_step and_neg_step conj_step expr_step mul_signed_step neg_step or_conj_step plus_step signed_step term_step test_step x

abbrev pub typed_signed : Scope → Signed → Typed
typed_signed scope x =
    fold-Signed Asking Typed Link Part Typed Typed Link Typed Part Typed Typed Typed Typed
    check_step (prime_step scope) add_term_step and_neg_step conj_step expr_step mul_signed_step neg_step or_conj_step plus_step signed_step term_step test_step x

abbrev pub typed_term : Scope → Term → Typed
typed_term scope x =
    fold-Term Asking Typed Link Part Typed Typed Link Typed Part Typed Typed Typed Typed
    check_step (prime_step scope) add_term_step and_neg_step conj_step expr_step mul_signed_step neg_step or_conj_step plus_step signed_step term_step test_step x

abbrev pub typed_test : Scope → Test → Typed
typed_test scope x =
    fold-Test Asking Typed Link Part Typed Typed Link Typed Part Typed Typed Typed Typed
    check_step (prime_step scope) add_term_step and_neg_step conj_step expr_step mul_signed_step neg_step or_conj_step plus_step signed_step term_step test_step x

-- what an expression becomes over the columns of a scope
abbrev pub typed : Scope → Expr → Typed
typed scope x =
    fold-Expr Asking Typed Link Part Typed Typed Link Typed Part Typed Typed Typed Typed
    check_step (prime_step scope) add_term_step and_neg_step conj_step expr_step mul_signed_step neg_step or_conj_step plus_step signed_step term_step test_step x
