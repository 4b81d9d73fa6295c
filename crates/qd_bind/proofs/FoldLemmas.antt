-- What a rule of the grammar becomes, by what stands in its tree.
use Rattle.std.proofs.Common.{◌≡◌, ℕ, List, map, sym, ap, ◌∙◌}
use Rattle.qd_sql_ast.specs.declared.tree.Cmp.{Cmp}
use Rattle.qd_sql_ast.specs.declared.tree.Lit.{Lit}
use Rattle.qd_sql_ast.specs.declared.tree.Text.{Text}
use Rattle.qd_sql_ast.specs.declared.tree.Column.{Column}
use Rattle.qd_sql_ast.specs.declared.tree.Check.{Check}
use Rattle.qd_sql_ast.specs.declared.tree.Check.TheVariants as checks
use Rattle.qd_sql_ast.specs.declared.tree.Check.TheVariants.{rolls-Compare, rolls-InList, rolls-InText}
use Rattle.qd_sql_ast.specs.declared.tree.Prime.{Prime}
use Rattle.qd_sql_ast.specs.declared.tree.Prime.TheVariants as primes
use Rattle.qd_sql_ast.specs.declared.tree.Prime.TheVariants.{rolls-Column}
use Rattle.qd_sql_ast.specs.declared.tree.Expr.{Expr, out-Expr}
use Rattle.qd_sql_ast.specs.declared.tree.Conj.{Conj, out-Conj}
use Rattle.qd_sql_ast.specs.declared.tree.Neg.{Neg, out-Neg}
use Rattle.qd_sql_ast.specs.declared.tree.Plus.{Plus, out-Plus}
use Rattle.qd_sql_ast.specs.declared.tree.Term.{Term, out-Term}
use Rattle.qd_sql_ast.specs.declared.tree.Signed.{Signed}
use Rattle.qd_sql_ast.specs.declared.tree.OrConj.{OrConj, out-OrConj}
use Rattle.qd_sql_ast.specs.declared.tree.AndNeg.{AndNeg, out-AndNeg}
use Rattle.qd_sql_ast.specs.declared.tree.AddTerm.{AddTerm, out-AddTerm}
use Rattle.qd_sql_ast.specs.declared.tree.MulSigned.{MulSigned}
use Rattle.qd_sql_ast.specs.declared.tree.Check.TheOpen.{Check-F, Prime-F}
use Rattle.qd_sql_ast.specs.declared.tree.Check.TheFolds.{fold-roll-Check, fold-roll-Prime, fold_out-Expr, fold_out-Conj, fold_out-Neg, fold_out-Plus, fold_out-Term, fold_out-Signed, fold_out-OrConj, fold_out-AndNeg, fold_out-AddTerm, fold_out-MulSigned}
use Rattle.qd_value.specs.declared.bound.Bound.TheVariants as is
use Rattle.qd_meaning.specs.Scopes.{Scope, resolved}
use Rattle.qd_meaning.specs.Typing.{Typed, Part, Link, negated, chained, compared, in_list, in_text, not_of, joined_by}
use Rattle.qd_meaning.specs.Binding.{Asking, check_step, prime_step, add_term_step, and_neg_step, conj_step, expr_step, mul_signed_step, neg_step, or_conj_step, plus_step, signed_step, term_step, test_step, typed, typed_check, typed_prime, typed_add_term, typed_and_neg, typed_conj, typed_mul_signed, typed_neg, typed_or_conj, typed_plus, typed_signed, typed_term, typed_test, add_op, mul_op, comparison_of, named_column, behind_all}

pub expr_out : (scope : Scope) (e : Expr) → typed scope e ≡ joined_by is.Any (typed_conj scope (out-Expr e).first) (map (typed_or_conj scope) (out-Expr e).more)
expr_out scope e = fold_out-Expr Asking Typed Link Part Typed Typed Link Typed Part Typed Typed Typed Typed check_step (prime_step scope) add_term_step and_neg_step conj_step expr_step mul_signed_step neg_step or_conj_step plus_step signed_step term_step test_step e

pub conj_out : (scope : Scope) (e : Conj) → typed_conj scope e ≡ joined_by is.All (typed_neg scope (out-Conj e).first) (map (typed_and_neg scope) (out-Conj e).more)
conj_out scope e = fold_out-Conj Asking Typed Link Part Typed Typed Link Typed Part Typed Typed Typed Typed check_step (prime_step scope) add_term_step and_neg_step conj_step expr_step mul_signed_step neg_step or_conj_step plus_step signed_step term_step test_step e

pub neg_out : (scope : Scope) (e : Neg) → typed_neg scope e ≡ behind_all not_of (typed_test scope (out-Neg e).test) (out-Neg e).nots
neg_out scope e = fold_out-Neg Asking Typed Link Part Typed Typed Link Typed Part Typed Typed Typed Typed check_step (prime_step scope) add_term_step and_neg_step conj_step expr_step mul_signed_step neg_step or_conj_step plus_step signed_step term_step test_step e

pub plus_out : (scope : Scope) (e : Plus) → typed_plus scope e ≡ chained (typed_term scope (out-Plus e).first) (map (typed_add_term scope) (out-Plus e).more)
plus_out scope e = fold_out-Plus Asking Typed Link Part Typed Typed Link Typed Part Typed Typed Typed Typed check_step (prime_step scope) add_term_step and_neg_step conj_step expr_step mul_signed_step neg_step or_conj_step plus_step signed_step term_step test_step e

pub term_out : (scope : Scope) (e : Term) → typed_term scope e ≡ chained (typed_signed scope (out-Term e).first) (map (typed_mul_signed scope) (out-Term e).more)
term_out scope e = fold_out-Term Asking Typed Link Part Typed Typed Link Typed Part Typed Typed Typed Typed check_step (prime_step scope) add_term_step and_neg_step conj_step expr_step mul_signed_step neg_step or_conj_step plus_step signed_step term_step test_step e

pub signed_out : (scope : Scope) (e : Signed) → typed_signed scope e ≡ behind_all negated (typed_prime scope e.prime) e.minuses
signed_out scope e = fold_out-Signed Asking Typed Link Part Typed Typed Link Typed Part Typed Typed Typed Typed check_step (prime_step scope) add_term_step and_neg_step conj_step expr_step mul_signed_step neg_step or_conj_step plus_step signed_step term_step test_step e

pub or_conj_out : (scope : Scope) (e : OrConj) → typed_or_conj scope e ≡ ((out-OrConj e).at, typed_conj scope (out-OrConj e).conj)
or_conj_out scope e = fold_out-OrConj Asking Typed Link Part Typed Typed Link Typed Part Typed Typed Typed Typed check_step (prime_step scope) add_term_step and_neg_step conj_step expr_step mul_signed_step neg_step or_conj_step plus_step signed_step term_step test_step e

pub and_neg_out : (scope : Scope) (e : AndNeg) → typed_and_neg scope e ≡ ((out-AndNeg e).at, typed_neg scope (out-AndNeg e).neg)
and_neg_out scope e = fold_out-AndNeg Asking Typed Link Part Typed Typed Link Typed Part Typed Typed Typed Typed check_step (prime_step scope) add_term_step and_neg_step conj_step expr_step mul_signed_step neg_step or_conj_step plus_step signed_step term_step test_step e

pub add_term_out : (scope : Scope) (e : AddTerm) → typed_add_term scope e ≡ (add_op (out-AddTerm e).op, (out-AddTerm e).at, typed_term scope (out-AddTerm e).term)
add_term_out scope e = fold_out-AddTerm Asking Typed Link Part Typed Typed Link Typed Part Typed Typed Typed Typed check_step (prime_step scope) add_term_step and_neg_step conj_step expr_step mul_signed_step neg_step or_conj_step plus_step signed_step term_step test_step e

pub mul_signed_out : (scope : Scope) (e : MulSigned) → typed_mul_signed scope e ≡ (mul_op e.op, e.at, typed_signed scope e.signed)
mul_signed_out scope e = fold_out-MulSigned Asking Typed Link Part Typed Typed Link Typed Part Typed Typed Typed Typed check_step (prime_step scope) add_term_step and_neg_step conj_step expr_step mul_signed_step neg_step or_conj_step plus_step signed_step term_step test_step e

pub column_typed : (scope : Scope) (c : Column) → typed_prime scope (primes.Column c) ≡ named_column (resolved scope c)
column_typed scope c = ap (λ (p : Prime). typed_prime scope p) (sym (rolls-Column c)) ∙ fold-roll-Prime Asking Typed Link Part Typed Typed Link Typed Part Typed Typed Typed Typed check_step (prime_step scope) add_term_step and_neg_step conj_step expr_step mul_signed_step neg_step or_conj_step plus_step signed_step term_step test_step (Prime-F.Column c)

pub compare_typed : (scope : Scope) (op : Cmp) (at : ℕ) (right : Plus) (x : Typed) → typed_check scope (checks.Compare op at right) x ≡ compared (comparison_of op) at x (typed_plus scope right)
compare_typed scope op at right x = ap (λ (c : Check). typed_check scope c x) (sym (rolls-Compare op at right)) ∙ ap (λ (f : Asking). f x) (fold-roll-Check Asking Typed Link Part Typed Typed Link Typed Part Typed Typed Typed Typed check_step (prime_step scope) add_term_step and_neg_step conj_step expr_step mul_signed_step neg_step or_conj_step plus_step signed_step term_step test_step (Check-F.Compare op at right))

pub list_typed : (scope : Scope) (at : ℕ) (lits : List Lit) (x : Typed) → typed_check scope (checks.InList at lits) x ≡ in_list x at lits
list_typed scope at lits x = ap (λ (c : Check). typed_check scope c x) (sym (rolls-InList at lits)) ∙ ap (λ (f : Asking). f x) (fold-roll-Check Asking Typed Link Part Typed Typed Link Typed Part Typed Typed Typed Typed check_step (prime_step scope) add_term_step and_neg_step conj_step expr_step mul_signed_step neg_step or_conj_step plus_step signed_step term_step test_step (Check-F.InList at lits))

pub within_typed : (scope : Scope) (at : ℕ) (t : Text) (x : Typed) → typed_check scope (checks.InText at t) x ≡ in_text x at t.text t.at
within_typed scope at t x = ap (λ (c : Check). typed_check scope c x) (sym (rolls-InText at t)) ∙ ap (λ (f : Asking). f x) (fold-roll-Check Asking Typed Link Part Typed Typed Link Typed Part Typed Typed Typed Typed check_step (prime_step scope) add_term_step and_neg_step conj_step expr_step mul_signed_step neg_step or_conj_step plus_step signed_step term_step test_step (Check-F.InText at t))
