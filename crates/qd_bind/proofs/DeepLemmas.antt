-- How deep a rule of the grammar nests, by what stands in its tree.
use Rattle.std.proofs.Common.{◌≡◌, ℕ, zero, suc, ◌+◌, ◌<◌, ◌≤◌, max, List, [], ◌∷◌, length, map, get_or, Result, Ok, Err, ap, arith}
use Rattle.qd_sql_ast.specs.declared.tree.Expr.{Expr, out-Expr}
use Rattle.qd_sql_ast.specs.declared.tree.Conj.{Conj, out-Conj}
use Rattle.qd_sql_ast.specs.declared.tree.Plus.{Plus, out-Plus}
use Rattle.qd_sql_ast.specs.declared.tree.Term.{Term, out-Term}
use Rattle.qd_sql_ast.specs.declared.tree.Neg.{Neg, out-Neg}
use Rattle.qd_sql_ast.specs.declared.tree.Signed.{Signed}
use Rattle.qd_sql_ast.specs.declared.tree.Test.{Test, out-Test}
use Rattle.qd_sql_ast.specs.declared.tree.OrConj.{OrConj, out-OrConj}
use Rattle.qd_sql_ast.specs.declared.tree.AndNeg.{AndNeg, out-AndNeg}
use Rattle.qd_sql_ast.specs.declared.tree.AddTerm.{AddTerm, out-AddTerm}
use Rattle.qd_sql_ast.specs.declared.tree.MulSigned.{MulSigned}
use Rattle.qd_sql_ast.specs.declared.tree.Check.TheFolds.{fold_out-Expr, fold_out-Conj, fold_out-Neg, fold_out-Test, fold_out-Plus, fold_out-Term, fold_out-Signed, fold_out-OrConj, fold_out-AndNeg, fold_out-AddTerm, fold_out-MulSigned}
use Rattle.qd_bind.specs.declared.fault.BindFault.{BindFault}
use Rattle.qd_bind.specs.declared.fault.BindFault.TheVariants as fault
use Rattle.qd_bind.specs.declared.typed.Typed.{Typed}
use Rattle.qd_bind.specs.Deep.{OnTooDeep}
use Rattle.qd_sql_ast.specs.Nesting.{deepest, check_step, prime_step, add_term_step, and_neg_step, conj_step, expr_step, mul_signed_step, neg_step, or_conj_step, plus_step, signed_step, term_step, test_step, depth_check, depth_prime, depth_add_term, depth_and_neg, depth_conj, depth_expr, depth_mul_signed, depth_neg, depth_or_conj, depth_plus, depth_signed, depth_term, depth_test}

pub expr_deep : (e : Expr) → depth_expr length e ≡ max (depth_conj length (out-Expr e).first) (deepest (map (depth_or_conj length) (out-Expr e).more))
expr_deep e = fold_out-Expr ℕ ℕ ℕ ℕ ℕ ℕ ℕ ℕ ℕ ℕ ℕ ℕ ℕ check_step prime_step add_term_step and_neg_step conj_step expr_step mul_signed_step (neg_step length) or_conj_step plus_step (signed_step length) term_step test_step e

pub conj_deep : (e : Conj) → depth_conj length e ≡ max (depth_neg length (out-Conj e).first) (deepest (map (depth_and_neg length) (out-Conj e).more))
conj_deep e = fold_out-Conj ℕ ℕ ℕ ℕ ℕ ℕ ℕ ℕ ℕ ℕ ℕ ℕ ℕ check_step prime_step add_term_step and_neg_step conj_step expr_step mul_signed_step (neg_step length) or_conj_step plus_step (signed_step length) term_step test_step e

pub plus_deep : (e : Plus) → depth_plus length e ≡ max (depth_term length (out-Plus e).first) (deepest (map (depth_add_term length) (out-Plus e).more))
plus_deep e = fold_out-Plus ℕ ℕ ℕ ℕ ℕ ℕ ℕ ℕ ℕ ℕ ℕ ℕ ℕ check_step prime_step add_term_step and_neg_step conj_step expr_step mul_signed_step (neg_step length) or_conj_step plus_step (signed_step length) term_step test_step e

pub term_deep : (e : Term) → depth_term length e ≡ max (depth_signed length (out-Term e).first) (deepest (map (depth_mul_signed length) (out-Term e).more))
term_deep e = fold_out-Term ℕ ℕ ℕ ℕ ℕ ℕ ℕ ℕ ℕ ℕ ℕ ℕ ℕ check_step prime_step add_term_step and_neg_step conj_step expr_step mul_signed_step (neg_step length) or_conj_step plus_step (signed_step length) term_step test_step e

pub neg_deep : (e : Neg) → depth_neg length e ≡ length (out-Neg e).nots + depth_test length (out-Neg e).test
neg_deep e = fold_out-Neg ℕ ℕ ℕ ℕ ℕ ℕ ℕ ℕ ℕ ℕ ℕ ℕ ℕ check_step prime_step add_term_step and_neg_step conj_step expr_step mul_signed_step (neg_step length) or_conj_step plus_step (signed_step length) term_step test_step e

pub signed_deep : (e : Signed) → depth_signed length e ≡ length e.minuses + depth_prime length e.prime
signed_deep e = fold_out-Signed ℕ ℕ ℕ ℕ ℕ ℕ ℕ ℕ ℕ ℕ ℕ ℕ ℕ check_step prime_step add_term_step and_neg_step conj_step expr_step mul_signed_step (neg_step length) or_conj_step plus_step (signed_step length) term_step test_step e

pub test_deep : (e : Test) → depth_test length e ≡ max (depth_plus length (out-Test e).left) (depth_check length (out-Test e).check)
test_deep e = fold_out-Test ℕ ℕ ℕ ℕ ℕ ℕ ℕ ℕ ℕ ℕ ℕ ℕ ℕ check_step prime_step add_term_step and_neg_step conj_step expr_step mul_signed_step (neg_step length) or_conj_step plus_step (signed_step length) term_step test_step e

pub or_conj_deep : (e : OrConj) → depth_or_conj length e ≡ depth_conj length (out-OrConj e).conj
or_conj_deep e = fold_out-OrConj ℕ ℕ ℕ ℕ ℕ ℕ ℕ ℕ ℕ ℕ ℕ ℕ ℕ check_step prime_step add_term_step and_neg_step conj_step expr_step mul_signed_step (neg_step length) or_conj_step plus_step (signed_step length) term_step test_step e

pub and_neg_deep : (e : AndNeg) → depth_and_neg length e ≡ depth_neg length (out-AndNeg e).neg
and_neg_deep e = fold_out-AndNeg ℕ ℕ ℕ ℕ ℕ ℕ ℕ ℕ ℕ ℕ ℕ ℕ ℕ check_step prime_step add_term_step and_neg_step conj_step expr_step mul_signed_step (neg_step length) or_conj_step plus_step (signed_step length) term_step test_step e

pub add_term_deep : (e : AddTerm) → depth_add_term length e ≡ depth_term length (out-AddTerm e).term
add_term_deep e = fold_out-AddTerm ℕ ℕ ℕ ℕ ℕ ℕ ℕ ℕ ℕ ℕ ℕ ℕ ℕ check_step prime_step add_term_step and_neg_step conj_step expr_step mul_signed_step (neg_step length) or_conj_step plus_step (signed_step length) term_step test_step e

pub mul_signed_deep : (e : MulSigned) → depth_mul_signed length e ≡ depth_signed length e.signed
mul_signed_deep e = fold_out-MulSigned ℕ ℕ ℕ ℕ ℕ ℕ ℕ ℕ ℕ ℕ ℕ ℕ ℕ check_step prime_step add_term_step and_neg_step conj_step expr_step mul_signed_step (neg_step length) or_conj_step plus_step (signed_step length) term_step test_step e

-- ---- what nests too deep in a part does in the whole

-- the same fault of another value, where it is known for another reason
raised : (A B : Type 0) (e : BindFault) {P Q : Type 0} → (P → Q) → OnTooDeep {A = A} (Err e) P → OnTooDeep {A = B} (Err e) Q
raised A B fault.Memory f h = tt
raised A B fault.TooDeep f h = f h

-- one part, or one of several
part_deep : {A : Type 0} (g : A → ℕ) (xs : List A) (i : ℕ) (x : A) → i < length xs → x ≡ get_or xs i x → g x ≤ deepest (map g xs)
part_deep g [] i x h e = absurd (omega (arith, h))
part_deep g (y ∷ ys) zero x h e = let k : g x ≡ g y = ap g e in omega (arith, k)
part_deep g (y ∷ ys) (suc i) x h e = let k = part_deep g ys i x (omega (arith, h)) e in omega (arith, k)

pub item_deep : {A : Type 0} (g : A → ℕ) (xs : List A) (i : ℕ) (x : A) (d m : ℕ) (e : BindFault) → i < length xs → x ≡ get_or xs i x → g x ≡ m
    → OnTooDeep {A = Typed} (Err e) (d < m) → OnTooDeep {A = Typed} (Err e) (d < deepest (map g xs))
item_deep g xs i x d m e here is same h = raised Typed Typed e (λ deep. let k = part_deep g xs i x here is in omega (arith, k, same, deep)) h

-- the first part, and what stands behind it
pub first_deep : (e : BindFault) (d n a b : ℕ) → n ≡ max a b → OnTooDeep {A = Typed} (Err e) (d < a) → OnTooDeep {A = Typed} (Err e) (d < n)
first_deep e d n a b is h = raised Typed Typed e (λ deep. omega (arith, is, deep)) h

pub rest_deep : (r : Result Typed BindFault) (d n a b : ℕ) → n ≡ max a b → OnTooDeep r (d < b) → OnTooDeep r (d < n)
rest_deep (Ok made) d n a b is h = tt
rest_deep (Err e) d n a b is h = raised Typed Typed e (λ deep. omega (arith, is, deep)) h

-- the one part that nests
pub same_deep : (e : BindFault) (d n a : ℕ) → n ≡ a → OnTooDeep {A = Typed} (Err e) (d < a) → OnTooDeep {A = Typed} (Err e) (d < n)
same_deep e d n a is h = raised Typed Typed e (λ deep. omega (arith, is, deep)) h

-- behind so many words
pub room_deep : (e : BindFault) (d n k m : ℕ) → n ≡ k + m → OnTooDeep {A = ℕ} (Err e) (d < k) → OnTooDeep {A = Typed} (Err e) (d < n)
room_deep e d n k m is h = raised ℕ Typed e (λ deep. omega (arith, is, deep)) h

pub words_deep : (r : Result Typed BindFault) (d n k m rest : ℕ) → n ≡ k + m → rest + k ≡ d → OnTooDeep r (rest < m) → OnTooDeep r (d < n)
words_deep (Ok made) d n k m rest is left h = tt
words_deep (Err e) d n k m rest is left h = raised Typed Typed e (λ deep. omega (arith, is, left, deep)) h

-- within a bracket more
pub bracket_deep : (r : Result Typed BindFault) (d n m : ℕ) → n ≡ m → OnTooDeep r (d < m) → OnTooDeep r (d < n)
bracket_deep (Ok made) d n m is h = tt
bracket_deep (Err e) d n m is h = raised Typed Typed e (λ deep. omega (arith, is, deep)) h

pub level_deep : (r : Result Typed BindFault) (d n : ℕ) → OnTooDeep r (d + 1 < n + 1) → OnTooDeep r (d < n)
level_deep (Ok made) d n h = tt
level_deep (Err e) d n h = raised Typed Typed e (λ deep. omega (arith, deep)) h
