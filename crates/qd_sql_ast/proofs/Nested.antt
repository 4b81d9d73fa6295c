-- How deep each rule of the grammar nests, by what stands in its tree.
use Rattle.std.proofs.Common.{◌≡◌, ℕ, ◌+◌, max, List, map, sym, ap, ◌∙◌}
use Rattle.qd_sql_ast.specs.declared.tree.AddOp.{AddOp}
use Rattle.qd_sql_ast.specs.declared.tree.MulOp.{MulOp}
use Rattle.qd_sql_ast.specs.declared.tree.Cmp.{Cmp}
use Rattle.qd_sql_ast.specs.declared.tree.Lit.{Lit}
use Rattle.qd_sql_ast.specs.declared.tree.Number.{Number}
use Rattle.qd_sql_ast.specs.declared.tree.Text.{Text}
use Rattle.qd_sql_ast.specs.declared.tree.Column.{Column}
use Rattle.qd_sql_ast.specs.declared.tree.Check.{Check}
use Rattle.qd_sql_ast.specs.declared.tree.Check.TheVariants as checks
use Rattle.qd_sql_ast.specs.declared.tree.Check.TheVariants.{rolls-Nothing, rolls-Compare, rolls-InList, rolls-InText, rolls-IsNull, rolls-IsNotNull}
use Rattle.qd_sql_ast.specs.declared.tree.Prime.{Prime}
use Rattle.qd_sql_ast.specs.declared.tree.Prime.TheVariants as primes
use Rattle.qd_sql_ast.specs.declared.tree.Prime.TheVariants.{rolls-Column, rolls-Number, rolls-Text, rolls-True, rolls-False, rolls-Null, rolls-Bracket}
use Rattle.qd_sql_ast.specs.declared.tree.Expr.{Expr, roll-Expr}
use Rattle.qd_sql_ast.specs.declared.tree.OrConj.{OrConj, roll-OrConj}
use Rattle.qd_sql_ast.specs.declared.tree.Conj.{Conj, roll-Conj}
use Rattle.qd_sql_ast.specs.declared.tree.AndNeg.{AndNeg, roll-AndNeg}
use Rattle.qd_sql_ast.specs.declared.tree.Neg.{Neg, roll-Neg}
use Rattle.qd_sql_ast.specs.declared.tree.Test.{Test, roll-Test}
use Rattle.qd_sql_ast.specs.declared.tree.Plus.{Plus, roll-Plus}
use Rattle.qd_sql_ast.specs.declared.tree.AddTerm.{AddTerm, roll-AddTerm}
use Rattle.qd_sql_ast.specs.declared.tree.Term.{Term, roll-Term}
use Rattle.qd_sql_ast.specs.declared.tree.MulSigned.{MulSigned, roll-MulSigned}
use Rattle.qd_sql_ast.specs.declared.tree.Signed.{Signed, roll-Signed}
use Rattle.qd_sql_ast.specs.declared.tree.Check.TheOpen.{Check-F, Prime-F}
use Rattle.qd_sql_ast.specs.declared.tree.Check.TheFolds.{fold-roll-Check, fold-roll-Prime, fold-roll-Expr, fold-roll-OrConj, fold-roll-Conj, fold-roll-AndNeg, fold-roll-Neg, fold-roll-Test, fold-roll-Plus, fold-roll-AddTerm, fold-roll-Term, fold-roll-MulSigned, fold-roll-Signed}
use Rattle.qd_sql_ast.specs.Nesting.{Words, deepest, check_step, prime_step, add_term_step, and_neg_step, conj_step, expr_step, mul_signed_step, neg_step, or_conj_step, plus_step, signed_step, term_step, test_step, depth_check, depth_prime, depth_add_term, depth_and_neg, depth_conj, depth_expr, depth_mul_signed, depth_neg, depth_or_conj, depth_plus, depth_signed, depth_term, depth_test}

pub expr_deep : (words : Words) (first : Conj) (more : List OrConj) → depth_expr words (roll-Expr (record { first = first; more = more })) ≡ max (depth_conj words first) (deepest (map (depth_or_conj words) more))
expr_deep words first more = fold-roll-Expr ℕ ℕ ℕ ℕ ℕ ℕ ℕ ℕ ℕ ℕ ℕ ℕ ℕ check_step prime_step add_term_step and_neg_step conj_step expr_step mul_signed_step (neg_step words) or_conj_step plus_step (signed_step words) term_step test_step (record { first = first; more = more })

pub or_conj_deep : (words : Words) (at : ℕ) (conj : Conj) → depth_or_conj words (roll-OrConj (record { at = at; conj = conj })) ≡ depth_conj words conj
or_conj_deep words at conj = fold-roll-OrConj ℕ ℕ ℕ ℕ ℕ ℕ ℕ ℕ ℕ ℕ ℕ ℕ ℕ check_step prime_step add_term_step and_neg_step conj_step expr_step mul_signed_step (neg_step words) or_conj_step plus_step (signed_step words) term_step test_step (record { at = at; conj = conj })

pub conj_deep : (words : Words) (first : Neg) (more : List AndNeg) → depth_conj words (roll-Conj (record { first = first; more = more })) ≡ max (depth_neg words first) (deepest (map (depth_and_neg words) more))
conj_deep words first more = fold-roll-Conj ℕ ℕ ℕ ℕ ℕ ℕ ℕ ℕ ℕ ℕ ℕ ℕ ℕ check_step prime_step add_term_step and_neg_step conj_step expr_step mul_signed_step (neg_step words) or_conj_step plus_step (signed_step words) term_step test_step (record { first = first; more = more })

pub and_neg_deep : (words : Words) (at : ℕ) (neg : Neg) → depth_and_neg words (roll-AndNeg (record { at = at; neg = neg })) ≡ depth_neg words neg
and_neg_deep words at neg = fold-roll-AndNeg ℕ ℕ ℕ ℕ ℕ ℕ ℕ ℕ ℕ ℕ ℕ ℕ ℕ check_step prime_step add_term_step and_neg_step conj_step expr_step mul_signed_step (neg_step words) or_conj_step plus_step (signed_step words) term_step test_step (record { at = at; neg = neg })

pub neg_deep : (words : Words) (nots : List ℕ) (test : Test) → depth_neg words (roll-Neg (record { nots = nots; test = test })) ≡ words nots + depth_test words test
neg_deep words nots test = fold-roll-Neg ℕ ℕ ℕ ℕ ℕ ℕ ℕ ℕ ℕ ℕ ℕ ℕ ℕ check_step prime_step add_term_step and_neg_step conj_step expr_step mul_signed_step (neg_step words) or_conj_step plus_step (signed_step words) term_step test_step (record { nots = nots; test = test })

pub test_deep : (words : Words) (left : Plus) (check : Check) → depth_test words (roll-Test (record { left = left; check = check })) ≡ max (depth_plus words left) (depth_check words check)
test_deep words left check = fold-roll-Test ℕ ℕ ℕ ℕ ℕ ℕ ℕ ℕ ℕ ℕ ℕ ℕ ℕ check_step prime_step add_term_step and_neg_step conj_step expr_step mul_signed_step (neg_step words) or_conj_step plus_step (signed_step words) term_step test_step (record { left = left; check = check })

pub plus_deep : (words : Words) (first : Term) (more : List AddTerm) → depth_plus words (roll-Plus (record { first = first; more = more })) ≡ max (depth_term words first) (deepest (map (depth_add_term words) more))
plus_deep words first more = fold-roll-Plus ℕ ℕ ℕ ℕ ℕ ℕ ℕ ℕ ℕ ℕ ℕ ℕ ℕ check_step prime_step add_term_step and_neg_step conj_step expr_step mul_signed_step (neg_step words) or_conj_step plus_step (signed_step words) term_step test_step (record { first = first; more = more })

pub add_term_deep : (words : Words) (op : AddOp) (at : ℕ) (term : Term) → depth_add_term words (roll-AddTerm (record { op = op; at = at; term = term })) ≡ depth_term words term
add_term_deep words op at term = fold-roll-AddTerm ℕ ℕ ℕ ℕ ℕ ℕ ℕ ℕ ℕ ℕ ℕ ℕ ℕ check_step prime_step add_term_step and_neg_step conj_step expr_step mul_signed_step (neg_step words) or_conj_step plus_step (signed_step words) term_step test_step (record { op = op; at = at; term = term })

pub term_deep : (words : Words) (first : Signed) (more : List MulSigned) → depth_term words (roll-Term (record { first = first; more = more })) ≡ max (depth_signed words first) (deepest (map (depth_mul_signed words) more))
term_deep words first more = fold-roll-Term ℕ ℕ ℕ ℕ ℕ ℕ ℕ ℕ ℕ ℕ ℕ ℕ ℕ check_step prime_step add_term_step and_neg_step conj_step expr_step mul_signed_step (neg_step words) or_conj_step plus_step (signed_step words) term_step test_step (record { first = first; more = more })

pub mul_signed_deep : (words : Words) (op : MulOp) (at : ℕ) (signed : Signed) → depth_mul_signed words (roll-MulSigned (record { op = op; at = at; signed = signed })) ≡ depth_signed words signed
mul_signed_deep words op at signed = fold-roll-MulSigned ℕ ℕ ℕ ℕ ℕ ℕ ℕ ℕ ℕ ℕ ℕ ℕ ℕ check_step prime_step add_term_step and_neg_step conj_step expr_step mul_signed_step (neg_step words) or_conj_step plus_step (signed_step words) term_step test_step (record { op = op; at = at; signed = signed })

pub signed_deep : (words : Words) (minuses : List ℕ) (prime : Prime) → depth_signed words (roll-Signed (record { minuses = minuses; prime = prime })) ≡ words minuses + depth_prime words prime
signed_deep words minuses prime = fold-roll-Signed ℕ ℕ ℕ ℕ ℕ ℕ ℕ ℕ ℕ ℕ ℕ ℕ ℕ check_step prime_step add_term_step and_neg_step conj_step expr_step mul_signed_step (neg_step words) or_conj_step plus_step (signed_step words) term_step test_step (record { minuses = minuses; prime = prime })

pub nothing_deep : (words : Words) → depth_check words checks.Nothing ≡ 0
nothing_deep words = ap (λ (c : Check). depth_check words c) (sym rolls-Nothing) ∙ fold-roll-Check ℕ ℕ ℕ ℕ ℕ ℕ ℕ ℕ ℕ ℕ ℕ ℕ ℕ check_step prime_step add_term_step and_neg_step conj_step expr_step mul_signed_step (neg_step words) or_conj_step plus_step (signed_step words) term_step test_step Check-F.Nothing

pub compare_deep : (words : Words) (op : Cmp) (at : ℕ) (right : Plus) → depth_check words (checks.Compare op at right) ≡ depth_plus words right
compare_deep words op at right = ap (λ (c : Check). depth_check words c) (sym (rolls-Compare op at right)) ∙ fold-roll-Check ℕ ℕ ℕ ℕ ℕ ℕ ℕ ℕ ℕ ℕ ℕ ℕ ℕ check_step prime_step add_term_step and_neg_step conj_step expr_step mul_signed_step (neg_step words) or_conj_step plus_step (signed_step words) term_step test_step (Check-F.Compare op at right)

pub in_list_deep : (words : Words) (at : ℕ) (lits : List Lit) → depth_check words (checks.InList at lits) ≡ 0
in_list_deep words at lits = ap (λ (c : Check). depth_check words c) (sym (rolls-InList at lits)) ∙ fold-roll-Check ℕ ℕ ℕ ℕ ℕ ℕ ℕ ℕ ℕ ℕ ℕ ℕ ℕ check_step prime_step add_term_step and_neg_step conj_step expr_step mul_signed_step (neg_step words) or_conj_step plus_step (signed_step words) term_step test_step (Check-F.InList at lits)

pub in_text_deep : (words : Words) (at : ℕ) (t : Text) → depth_check words (checks.InText at t) ≡ 0
in_text_deep words at t = ap (λ (c : Check). depth_check words c) (sym (rolls-InText at t)) ∙ fold-roll-Check ℕ ℕ ℕ ℕ ℕ ℕ ℕ ℕ ℕ ℕ ℕ ℕ ℕ check_step prime_step add_term_step and_neg_step conj_step expr_step mul_signed_step (neg_step words) or_conj_step plus_step (signed_step words) term_step test_step (Check-F.InText at t)

pub is_null_deep : (words : Words) (at : ℕ) → depth_check words (checks.IsNull at) ≡ 0
is_null_deep words at = ap (λ (c : Check). depth_check words c) (sym (rolls-IsNull at)) ∙ fold-roll-Check ℕ ℕ ℕ ℕ ℕ ℕ ℕ ℕ ℕ ℕ ℕ ℕ ℕ check_step prime_step add_term_step and_neg_step conj_step expr_step mul_signed_step (neg_step words) or_conj_step plus_step (signed_step words) term_step test_step (Check-F.IsNull at)

pub is_not_null_deep : (words : Words) (at : ℕ) → depth_check words (checks.IsNotNull at) ≡ 0
is_not_null_deep words at = ap (λ (c : Check). depth_check words c) (sym (rolls-IsNotNull at)) ∙ fold-roll-Check ℕ ℕ ℕ ℕ ℕ ℕ ℕ ℕ ℕ ℕ ℕ ℕ ℕ check_step prime_step add_term_step and_neg_step conj_step expr_step mul_signed_step (neg_step words) or_conj_step plus_step (signed_step words) term_step test_step (Check-F.IsNotNull at)

pub number_value_deep : (words : Words) (n : Number) → depth_prime words (primes.Number n) ≡ 0
number_value_deep words n = ap (λ (p : Prime). depth_prime words p) (sym (rolls-Number n)) ∙ fold-roll-Prime ℕ ℕ ℕ ℕ ℕ ℕ ℕ ℕ ℕ ℕ ℕ ℕ ℕ check_step prime_step add_term_step and_neg_step conj_step expr_step mul_signed_step (neg_step words) or_conj_step plus_step (signed_step words) term_step test_step (Prime-F.Number n)

pub text_value_deep : (words : Words) (t : Text) → depth_prime words (primes.Text t) ≡ 0
text_value_deep words t = ap (λ (p : Prime). depth_prime words p) (sym (rolls-Text t)) ∙ fold-roll-Prime ℕ ℕ ℕ ℕ ℕ ℕ ℕ ℕ ℕ ℕ ℕ ℕ ℕ check_step prime_step add_term_step and_neg_step conj_step expr_step mul_signed_step (neg_step words) or_conj_step plus_step (signed_step words) term_step test_step (Prime-F.Text t)

pub true_value_deep : (words : Words) (at : ℕ) → depth_prime words (primes.True at) ≡ 0
true_value_deep words at = ap (λ (p : Prime). depth_prime words p) (sym (rolls-True at)) ∙ fold-roll-Prime ℕ ℕ ℕ ℕ ℕ ℕ ℕ ℕ ℕ ℕ ℕ ℕ ℕ check_step prime_step add_term_step and_neg_step conj_step expr_step mul_signed_step (neg_step words) or_conj_step plus_step (signed_step words) term_step test_step (Prime-F.True at)

pub false_value_deep : (words : Words) (at : ℕ) → depth_prime words (primes.False at) ≡ 0
false_value_deep words at = ap (λ (p : Prime). depth_prime words p) (sym (rolls-False at)) ∙ fold-roll-Prime ℕ ℕ ℕ ℕ ℕ ℕ ℕ ℕ ℕ ℕ ℕ ℕ ℕ check_step prime_step add_term_step and_neg_step conj_step expr_step mul_signed_step (neg_step words) or_conj_step plus_step (signed_step words) term_step test_step (Prime-F.False at)

pub null_value_deep : (words : Words) (at : ℕ) → depth_prime words (primes.Null at) ≡ 0
null_value_deep words at = ap (λ (p : Prime). depth_prime words p) (sym (rolls-Null at)) ∙ fold-roll-Prime ℕ ℕ ℕ ℕ ℕ ℕ ℕ ℕ ℕ ℕ ℕ ℕ ℕ check_step prime_step add_term_step and_neg_step conj_step expr_step mul_signed_step (neg_step words) or_conj_step plus_step (signed_step words) term_step test_step (Prime-F.Null at)

pub column_value_deep : (words : Words) (c : Column) → depth_prime words (primes.Column c) ≡ 0
column_value_deep words c = ap (λ (p : Prime). depth_prime words p) (sym (rolls-Column c)) ∙ fold-roll-Prime ℕ ℕ ℕ ℕ ℕ ℕ ℕ ℕ ℕ ℕ ℕ ℕ ℕ check_step prime_step add_term_step and_neg_step conj_step expr_step mul_signed_step (neg_step words) or_conj_step plus_step (signed_step words) term_step test_step (Prime-F.Column c)

pub bracket_value_deep : (words : Words) (e : Expr) → depth_prime words (primes.Bracket e) ≡ depth_expr words e + 1
bracket_value_deep words e = ap (λ (p : Prime). depth_prime words p) (sym (rolls-Bracket e)) ∙ fold-roll-Prime ℕ ℕ ℕ ℕ ℕ ℕ ℕ ℕ ℕ ℕ ℕ ℕ ℕ check_step prime_step add_term_step and_neg_step conj_step expr_step mul_signed_step (neg_step words) or_conj_step plus_step (signed_step words) term_step test_step (Prime-F.Bracket e)
