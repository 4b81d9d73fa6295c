-- The binding of expressions as the equations of a recursion on the rules of the grammar.
use Rattle.std.specs.Prelude.{◌≡◌, ℕ, true, false, List, map, pos}
use Rattle.qd_sql_ast.specs.declared.tree.AddOp.{AddOp}
use Rattle.qd_sql_ast.specs.declared.tree.MulOp.{MulOp}
use Rattle.qd_sql_ast.specs.declared.tree.Cmp.{Cmp}
use Rattle.qd_sql_ast.specs.declared.tree.Lit.{Lit}
use Rattle.qd_sql_ast.specs.declared.tree.Number.{Number}
use Rattle.qd_sql_ast.specs.declared.tree.Text.{Text}
use Rattle.qd_sql_ast.specs.declared.tree.Column.{Column}
use Rattle.qd_sql_ast.specs.declared.tree.Check.{Check}
use Rattle.qd_sql_ast.specs.declared.tree.Check.TheVariants as checks
use Rattle.qd_sql_ast.specs.declared.tree.Prime.{Prime}
use Rattle.qd_sql_ast.specs.declared.tree.Prime.TheVariants as primes
use Rattle.qd_sql_ast.specs.declared.tree.Expr.{Expr, roll-Expr}
use Rattle.qd_sql_ast.specs.declared.tree.OrConj.{OrConj, roll-OrConj}
use Rattle.qd_sql_ast.specs.declared.tree.Conj.{Conj, roll-Conj}
use Rattle.qd_sql_ast.specs.declared.tree.AndNeg.{AndNeg, roll-AndNeg}
use Rattle.qd_sql_ast.specs.declared.tree.Neg.{Neg, roll-Neg}
use Rattle.qd_sql_ast.specs.declared.tree.Test.{Test, roll-Test}
use Rattle.qd_sql_ast.specs.declared.tree.Plus.{Plus, roll-Plus}
use Rattle.qd_sql_ast.specs.declared.tree.AddTerm.{AddTerm, roll-AddTerm}
use Rattle.qd_sql_ast.specs.declared.tree.Term.{Term, roll-Term}
use Rattle.qd_sql_ast.specs.declared.tree.MulSigned.{MulSigned, roll-MulSigned}
use Rattle.qd_sql_ast.specs.declared.tree.Signed.{Signed, roll-Signed}
use Rattle.qd_value.specs.declared.bound.Bound.TheVariants as bound
use Rattle.qd_meaning.specs.Scopes.{Scope, resolved}
use Rattle.qd_meaning.specs.Typing.{Typed, literal, constant_null, constant_truth, constant_number, constant_text, negated, chained, compared, in_list, in_text, is_null, opposite, not_of, joined_by}
use Rattle.qd_meaning.specs.Binding.{typed, typed_check, typed_prime, typed_add_term, typed_and_neg, typed_conj, typed_mul_signed, typed_neg, typed_or_conj, typed_plus, typed_signed, typed_term, typed_test, add_op, mul_op, comparison_of, named_column, behind_all}

-- What an expression of a statement becomes, rule by rule, from what its parts become.
pub record BindingsFollow : Type 0 where
  pub expr : (scope : Scope) (first : Conj) (more : List OrConj) → typed scope (roll-Expr (record { first = first; more = more })) ≡ joined_by bound.Any (typed_conj scope first) (map (typed_or_conj scope) more)
  pub or_conj : (scope : Scope) (at : ℕ) (conj : Conj) → typed_or_conj scope (roll-OrConj (record { at = at; conj = conj })) ≡ (at, typed_conj scope conj)
  pub conj : (scope : Scope) (first : Neg) (more : List AndNeg) → typed_conj scope (roll-Conj (record { first = first; more = more })) ≡ joined_by bound.All (typed_neg scope first) (map (typed_and_neg scope) more)
  pub and_neg : (scope : Scope) (at : ℕ) (neg : Neg) → typed_and_neg scope (roll-AndNeg (record { at = at; neg = neg })) ≡ (at, typed_neg scope neg)
  pub neg : (scope : Scope) (nots : List ℕ) (test : Test) → typed_neg scope (roll-Neg (record { nots = nots; test = test })) ≡ behind_all not_of (typed_test scope test) nots
  pub test : (scope : Scope) (left : Plus) (check : Check) → typed_test scope (roll-Test (record { left = left; check = check })) ≡ typed_check scope check (typed_plus scope left)
  pub alone : (scope : Scope) (x : Typed) → typed_check scope checks.Nothing x ≡ x
  pub compare : (scope : Scope) (op : Cmp) (at : ℕ) (right : Plus) (x : Typed) → typed_check scope (checks.Compare op at right) x ≡ compared (comparison_of op) at x (typed_plus scope right)
  pub in_list : (scope : Scope) (at : ℕ) (lits : List Lit) (x : Typed) → typed_check scope (checks.InList at lits) x ≡ in_list x at lits
  pub in_text : (scope : Scope) (at : ℕ) (t : Text) (x : Typed) → typed_check scope (checks.InText at t) x ≡ in_text x at t.text t.at
  pub null : (scope : Scope) (at : ℕ) (x : Typed) → typed_check scope (checks.IsNull at) x ≡ is_null x
  pub not_null : (scope : Scope) (at : ℕ) (x : Typed) → typed_check scope (checks.IsNotNull at) x ≡ opposite (is_null x)
  pub plus : (scope : Scope) (first : Term) (more : List AddTerm) → typed_plus scope (roll-Plus (record { first = first; more = more })) ≡ chained (typed_term scope first) (map (typed_add_term scope) more)
  pub add_term : (scope : Scope) (op : AddOp) (at : ℕ) (term : Term) → typed_add_term scope (roll-AddTerm (record { op = op; at = at; term = term })) ≡ (add_op op, at, typed_term scope term)
  pub term : (scope : Scope) (first : Signed) (more : List MulSigned) → typed_term scope (roll-Term (record { first = first; more = more })) ≡ chained (typed_signed scope first) (map (typed_mul_signed scope) more)
  pub mul_signed : (scope : Scope) (op : MulOp) (at : ℕ) (signed : Signed) → typed_mul_signed scope (roll-MulSigned (record { op = op; at = at; signed = signed })) ≡ (mul_op op, at, typed_signed scope signed)
  pub signed : (scope : Scope) (minuses : List ℕ) (prime : Prime) → typed_signed scope (roll-Signed (record { minuses = minuses; prime = prime })) ≡ behind_all negated (typed_prime scope prime) minuses
  pub column : (scope : Scope) (c : Column) → typed_prime scope (primes.Column c) ≡ named_column (resolved scope c)
  pub number : (scope : Scope) (n : Number) → typed_prime scope (primes.Number n) ≡ literal (constant_number (pos n.value) false n.at)
  pub text : (scope : Scope) (t : Text) → typed_prime scope (primes.Text t) ≡ literal (constant_text t.text t.at)
  pub true_word : (scope : Scope) (at : ℕ) → typed_prime scope (primes.True at) ≡ literal (constant_truth true)
  pub false_word : (scope : Scope) (at : ℕ) → typed_prime scope (primes.False at) ≡ literal (constant_truth false)
  pub null_word : (scope : Scope) (at : ℕ) → typed_prime scope (primes.Null at) ≡ literal constant_null
  pub bracket : (scope : Scope) (e : Expr) → typed_prime scope (primes.Bracket e) ≡ typed scope e
