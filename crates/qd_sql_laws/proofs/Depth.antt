-- Expressions are read exactly, however deep their brackets may nest.
use Rattle.std.proofs.Common.{◌≡◌, arith, ℕ, zero, suc, ◌+◌, Bool, true, false, List, [], ◌∷◌, None, Err, refl, ◌++◌, subst}
use Rattle.qd_sql_lexer.specs.Tokens.{Lexeme}
use Rattle.qd_base.specs.declared.limits.TheConstants.{MAX_NESTING}
use Rattle.qd_sql_ast.specs.declared.stop.Halt.TheVariants as halt
use Rattle.qd_sql_ast.specs.declared.tree.Column.{Column}
use Rattle.qd_sql_ast.specs.declared.tree.Expr.{Expr, roll-Expr}
use Rattle.qd_sql_ast.specs.declared.tree.OrConj.{OrConj}
use Rattle.qd_sql_ast.specs.declared.tree.Conj.{Conj, roll-Conj}
use Rattle.qd_sql_ast.specs.declared.tree.AndNeg.{AndNeg}
use Rattle.qd_sql_ast.specs.declared.tree.Neg.{Neg, roll-Neg}
use Rattle.qd_sql_ast.specs.declared.tree.Test.{Test, roll-Test}
use Rattle.qd_sql_ast.specs.declared.tree.Check.{Check}
use Rattle.qd_sql_ast.specs.declared.tree.Check.TheVariants as asks
use Rattle.qd_sql_ast.specs.declared.tree.Plus.{Plus, roll-Plus}
use Rattle.qd_sql_ast.specs.declared.tree.AddTerm.{AddTerm}
use Rattle.qd_sql_ast.specs.declared.tree.Term.{Term, roll-Term}
use Rattle.qd_sql_ast.specs.declared.tree.MulSigned.{MulSigned}
use Rattle.qd_sql_ast.specs.declared.tree.Signed.{Signed, roll-Signed}
use Rattle.qd_sql_ast.specs.declared.tree.Prime.{Prime}
use Rattle.qd_sql_ast.specs.declared.tree.Prime.TheVariants as is
use Rattle.qd_sql_ast.specs.Steps.{Read, is_name}
use Rattle.qd_sql.specs.Exprs.{expr}
use Rattle.qd_sql.specs.Queries.{whole}
use Rattle.qd_sql_laws.specs.ExprRules.{IsPrime, IsSigned, IsMulSigned, IsTerm, IsAddTerm, IsPlus, IsCheck, IsTest, IsNeg, IsAndNeg, IsConj, IsOrConj, IsExpr}
use Rattle.qd_sql_laws.specs.Grammar.{Nests, NestsAnyhow}
use Rattle.qd_sql_laws.proofs.Sorts.{AllGood, not_both, Has}
use Rattle.qd_sql_laws.proofs.Judging.{Clear, Rule}
use Rattle.qd_sql_laws.proofs.Combining.{Unique, Exact, Alive, by_deep_form}
use Rattle.qd_sql_laws.proofs.Living.{Live}
use Rattle.qd_sql_laws.proofs.ExprExact.{each_to, expr_first, expr_last, an_expr}

-- where more is an expression in brackets, more is an expression
module _ (I J : Expr → List Lexeme → Type 0) (f : (e : Expr) (ts : List Lexeme) → I e ts → J e ts) where
  prime_more : (x : Prime) (ts : List Lexeme) → IsPrime I x ts → IsPrime J x ts
  prime_more x ts (IsPrime.number n us h) = IsPrime.number n us h
  prime_more x ts (IsPrime.text t us h) = IsPrime.text t us h
  prime_more x ts (IsPrime.true_word at us h) = IsPrime.true_word at us h
  prime_more x ts (IsPrime.false_word at us h) = IsPrime.false_word at us h
  prime_more x ts (IsPrime.null_word at us h) = IsPrime.null_word at us h
  prime_more x ts (IsPrime.column c us h) = IsPrime.column c us h
  prime_more x ts (IsPrime.bracket e us (o, r, p, a, (o₂, r₂, p₂, b, c))) = IsPrime.bracket e us (o, r, p, a, (o₂, r₂, p₂, f e o₂ b, c))

  signed_more : (x : Signed) (ts : List Lexeme) → IsSigned I x ts → IsSigned J x ts
  signed_more x ts (IsSigned.signed ms y us (o, r, p, a, b)) = IsSigned.signed ms y us (o, r, p, a, prime_more y r b)

  mul_signed_more : (x : MulSigned) (ts : List Lexeme) → IsMulSigned I x ts → IsMulSigned J x ts
  mul_signed_more x ts (IsMulSigned.multiplied op at y us (o, r, p, a, b)) = IsMulSigned.multiplied op at y us (o, r, p, a, signed_more y r b)

  term_more : (x : Term) (ts : List Lexeme) → IsTerm I x ts → IsTerm J x ts
  term_more x ts (IsTerm.term y ys us (o, r, p, a, b)) = IsTerm.term y ys us (o, r, p, signed_more y o a, each_to (IsMulSigned I) (IsMulSigned J) mul_signed_more ys r b)

  add_term_more : (x : AddTerm) (ts : List Lexeme) → IsAddTerm I x ts → IsAddTerm J x ts
  add_term_more x ts (IsAddTerm.added op at y us (o, r, p, a, b)) = IsAddTerm.added op at y us (o, r, p, a, term_more y r b)

  plus_more : (x : Plus) (ts : List Lexeme) → IsPlus I x ts → IsPlus J x ts
  plus_more x ts (IsPlus.plus y ys us (o, r, p, a, b)) = IsPlus.plus y ys us (o, r, p, term_more y o a, each_to (IsAddTerm I) (IsAddTerm J) add_term_more ys r b)

  check_more : (x : Check) (ts : List Lexeme) → IsCheck I x ts → IsCheck J x ts
  check_more x ts (IsCheck.nothing us h) = IsCheck.nothing us h
  check_more x ts (IsCheck.compares op at y us (o, r, p, a, b)) = IsCheck.compares op at y us (o, r, p, a, plus_more y r b)
  check_more x ts (IsCheck.in_list at ls us h) = IsCheck.in_list at ls us h
  check_more x ts (IsCheck.in_text at t us h) = IsCheck.in_text at t us h
  check_more x ts (IsCheck.is_null at us h) = IsCheck.is_null at us h
  check_more x ts (IsCheck.is_not_null at us h) = IsCheck.is_not_null at us h

  test_more : (x : Test) (ts : List Lexeme) → IsTest I x ts → IsTest J x ts
  test_more x ts (IsTest.test y c us (o, r, p, a, b)) = IsTest.test y c us (o, r, p, plus_more y o a, check_more c r b)

  neg_more : (x : Neg) (ts : List Lexeme) → IsNeg I x ts → IsNeg J x ts
  neg_more x ts (IsNeg.neg ns y us (o, r, p, a, b)) = IsNeg.neg ns y us (o, r, p, a, test_more y r b)

  and_neg_more : (x : AndNeg) (ts : List Lexeme) → IsAndNeg I x ts → IsAndNeg J x ts
  and_neg_more x ts (IsAndNeg.and_neg at y us (o, r, p, a, b)) = IsAndNeg.and_neg at y us (o, r, p, a, neg_more y r b)

  conj_more : (x : Conj) (ts : List Lexeme) → IsConj I x ts → IsConj J x ts
  conj_more x ts (IsConj.conj y ys us (o, r, p, a, b)) = IsConj.conj y ys us (o, r, p, neg_more y o a, each_to (IsAndNeg I) (IsAndNeg J) and_neg_more ys r b)

  or_conj_more : (x : OrConj) (ts : List Lexeme) → IsOrConj I x ts → IsOrConj J x ts
  or_conj_more x ts (IsOrConj.or_conj at y us (o, r, p, a, b)) = IsOrConj.or_conj at y us (o, r, p, a, conj_more y r b)

  expr_more : (x : Expr) (ts : List Lexeme) → IsExpr I x ts → IsExpr J x ts
  expr_more x ts (IsExpr.expr y ys us (o, r, p, a, b)) = IsExpr.expr y ys us (o, r, p, conj_more y o a, each_to (IsOrConj I) (IsOrConj J) or_conj_more ys r b)

-- a name alone is an expression
module _ (I : Expr → List Lexeme → Type 0) (t : Lexeme) (h : is_name t ≡ true) where
  lone_prime : (x : Prime) × IsPrime I x (t ∷ [])
  lone_prime =
      let c : Column = record { first = record { at = t.at; text = t.content }; second = None } in
      (is.Column c, IsPrime.column c (t ∷ []) (t ∷ [], [], refl, (t, refl, (h, refl)), refl))

  lone_signed : (x : Signed) × IsSigned I x (t ∷ [])
  lone_signed = let y = lone_prime in (roll-Signed (record { minuses = []; prime = y.0 }), IsSigned.signed [] y.0 (t ∷ []) ([], t ∷ [], refl, refl, y.1))

  lone_term : (x : Term) × IsTerm I x (t ∷ [])
  lone_term = let y = lone_signed in (roll-Term (record { first = y.0; more = [] }), IsTerm.term y.0 [] (t ∷ []) (t ∷ [], [], refl, y.1, refl))

  lone_plus : (x : Plus) × IsPlus I x (t ∷ [])
  lone_plus = let y = lone_term in (roll-Plus (record { first = y.0; more = [] }), IsPlus.plus y.0 [] (t ∷ []) (t ∷ [], [], refl, y.1, refl))

  lone_test : (x : Test) × IsTest I x (t ∷ [])
  lone_test = let y = lone_plus in (roll-Test (record { left = y.0; check = asks.Nothing }), IsTest.test y.0 asks.Nothing (t ∷ []) (t ∷ [], [], refl, y.1, IsCheck.nothing [] refl))

  lone_neg : (x : Neg) × IsNeg I x (t ∷ [])
  lone_neg = let y = lone_test in (roll-Neg (record { nots = []; test = y.0 }), IsNeg.neg [] y.0 (t ∷ []) ([], t ∷ [], refl, refl, y.1))

  lone_conj : (x : Conj) × IsConj I x (t ∷ [])
  lone_conj = let y = lone_neg in (roll-Conj (record { first = y.0; more = [] }), IsConj.conj y.0 [] (t ∷ []) (t ∷ [], [], refl, y.1, refl))

  pub lone_expr : (x : Expr) × IsExpr I x (t ∷ [])
  lone_expr = let y = lone_conj in (roll-Expr (record { first = y.0; more = [] }), IsExpr.expr y.0 [] (t ∷ []) (t ∷ [], [], refl, y.1, refl))

-- what no memory reads
abbrev pub Beyond : (Expr → List Lexeme → Type 0) → Rule Expr
Beyond R false = λ e ts. ⊥
Beyond R true = R

abbrev pub memory : List Lexeme → Read Expr
memory ts = Err halt.TooDeep

-- tokens are one such expression at most
abbrev pub One : (Expr → List Lexeme → Type 0) → Type 0
One R = (a b : Expr) (x y u v : List Lexeme) → R a x → R b y → x ++ u ≡ y ++ v → Clear expr_last u → Clear expr_last v → (a ≡ b) × (x ≡ y)

module _ (R : Expr → List Lexeme → Type 0) (starts : (e : Expr) (t : Lexeme) (ts : List Lexeme) → R e (t ∷ ts) → Has expr_first t) (filled : (e : Expr) → R e [] → ⊥)
    (clean : (e : Expr) (ts : List Lexeme) → R e ts → AllGood ts) (one : One R) where
  beyond_starts : (d : Bool) (e : Expr) (t : Lexeme) (ts : List Lexeme) → Beyond R d e (t ∷ ts) → Has expr_first t
  beyond_starts false e t ts h = absurd h
  beyond_starts true e t ts h = starts e t ts h

  beyond_filled : (d : Bool) (e : Expr) → Beyond R d e [] → false ≡ true
  beyond_filled false e h = absurd h
  beyond_filled true e h = absurd (filled e h)

  beyond_clean : (d : Bool) (e : Expr) (ts : List Lexeme) → Beyond R d e ts → AllGood ts
  beyond_clean false e ts h = absurd h
  beyond_clean true e ts h = clean e ts h

  beyond_unique : Unique (Beyond R) expr_last
  beyond_unique false a b x y u v p q e cu cv = absurd p
  beyond_unique true a b x y u v p q e cu cv = one a b x y u v p q e cu cv

  pub beyond : (n : ℕ) → Exact n memory (Beyond R) expr_first false expr_last
  beyond n = record {
    starts = beyond_starts;
    filled = beyond_filled;
    deepens = λ a ts h. absurd h;
    clean = beyond_clean;
    unique = beyond_unique;
    exact = λ k K follows ts fits b (a, front, behind, p, r, x). r;
  }

-- how an expression of each depth begins
abbrev pub Bounds : (Expr → List Lexeme → Type 0) → Type 0
Bounds R =
    ((e : Expr) (t : Lexeme) (ts : List Lexeme) → R e (t ∷ ts) → Has expr_first t) × ((e : Expr) → R e [] → ⊥) × ((e : Expr) (ts : List Lexeme) → R e ts → AllGood ts) × One R

pub bounds : (depth : ℕ) → Bounds (Nests depth)
unfolding Nests
bounds zero = ((λ e t ts h. absurd h), (λ e h. h), (λ e ts h. absurd h), (λ a b x y u v p q e cu cv. absurd p))
bounds (suc depth) =
    let b = bounds depth in
    let x = (an_expr memory (Beyond (Nests depth)) (beyond (Nests depth) b.0 b.1 b.2 b.3) 0).exactly in
    ((λ e t ts h. x.starts true e t ts h), (λ e h. not_both false (x.filled true e h) refl), (λ e ts h. x.clean true e ts h), (λ a b y z u v p q e cu cv. x.unique true a b y z u v p q e cu cv))

-- within the limit, and at any depth
abbrev pub Deep : ℕ → Rule Expr
Deep depth false = Nests depth
Deep depth true = NestsAnyhow

deep_starts : (depth : ℕ) (d : Bool) (e : Expr) (t : Lexeme) (ts : List Lexeme) → Deep depth d e (t ∷ ts) → Has expr_first t
deep_starts depth false e t ts h = (bounds depth).0 e t ts h
deep_starts depth true e t ts (k, h) = (bounds k).0 e t ts h

deep_filled : (depth : ℕ) (d : Bool) (e : Expr) → Deep depth d e [] → false ≡ true
deep_filled depth false e h = absurd ((bounds depth).1 e h)
deep_filled depth true e (k, h) = absurd ((bounds k).1 e h)

deep_clean : (depth : ℕ) (d : Bool) (e : Expr) (ts : List Lexeme) → Deep depth d e ts → AllGood ts
deep_clean depth false e ts h = (bounds depth).2 e ts h
deep_clean depth true e ts (k, h) = (bounds k).2 e ts h

-- what nests within a limit nests within a greater one
deeper : (k m : ℕ) (e : Expr) (ts : List Lexeme) → Nests k e ts → Nests (k + m) e ts
unfolding Nests
deeper zero m e ts h = absurd h
deeper (suc k) m e ts h =
    let q : suc (k + m) ≡ suc k + m = omega arith in
    subst (λ z. Nests z e ts) q (expr_more (Nests k) (Nests (k + m)) (λ x us y. deeper k m x us y) e ts h)

deep_unique : (depth : ℕ) → Unique (Deep depth) expr_last
deep_unique depth false a b x y u v p q e cu cv = (bounds depth).3 a b x y u v p q e cu cv
deep_unique depth true a b x y u v (k, p) (l, q) e cu cv =
    let f : l + k ≡ k + l = omega arith in
    (bounds (k + l)).3 a b x y u v (deeper k l a x p) (subst (λ z. Nests z b y) f (deeper l k b y q)) e cu cv

from_deep : (depth : ℕ) (d : Bool) (e : Expr) (ts : List Lexeme) → Deep (suc depth) d e ts → IsExpr (Deep depth d) e ts
unfolding Nests
from_deep depth false e ts h = h
from_deep depth true e ts (zero, h) = absurd h
from_deep depth true e ts (suc k, h) = expr_more (Nests k) NestsAnyhow (λ x us y. (k, y)) e ts h

expr_exact : (depth n : ℕ) → Exact n (expr depth) (Deep depth) expr_first false expr_last
unfolding expr Nests
expr_exact zero n = record {
  starts = deep_starts zero;
  filled = deep_filled zero;
  deepens = λ a ts h. absurd h;
  clean = deep_clean zero;
  unique = deep_unique zero;
  exact = λ k K follows ts fits b (a, front, behind, p, r, x). r;
}
expr_exact (suc depth) n =
    by_deep_form {S = Deep (suc depth)} (λ e ts h. h) (from_deep depth) (λ e ts h. (suc depth, h)) (an_expr (expr depth) (Deep depth) (λ m. expr_exact depth m) n).exactly

expr_alive : (depth : ℕ) → Alive (Deep (suc depth))
unfolding Nests
expr_alive depth = let r = (an_expr (expr depth) (Deep depth) (λ m. expr_exact depth m) 0).alive in (r.0, r.1, r.2)

pub a_whole : (n : ℕ) → Live n whole (Deep (MAX_NESTING + 1)) expr_first false expr_last
unfolding whole
a_whole n = record { exactly = expr_exact (MAX_NESTING + 1) n; alive = expr_alive MAX_NESTING }
