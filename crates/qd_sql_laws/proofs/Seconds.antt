-- An expression that begins with a name goes on with no bracket.
use Rattle.std.proofs.Common.{◌≡◌, ℕ, zero, suc, Bool, true, false, List, [], ◌∷◌, ◌++◌, Option, Some, None, refl, sym, ap, ap₂, ◌∙◌, subst, codes}
use Rattle.qd_sql_lexer.specs.declared.token.Kind.TheVariants as kind
use Rattle.qd_sql_lexer.specs.Tokens.{Lexeme}
use Rattle.qd_sql_ast.specs.declared.tree.Name.{Name}
use Rattle.qd_sql_ast.specs.declared.tree.Expr.{Expr}
use Rattle.qd_sql_ast.specs.declared.tree.Conj.{Conj}
use Rattle.qd_sql_ast.specs.declared.tree.Neg.{Neg}
use Rattle.qd_sql_ast.specs.declared.tree.Test.{Test}
use Rattle.qd_sql_ast.specs.declared.tree.Plus.{Plus}
use Rattle.qd_sql_ast.specs.declared.tree.Term.{Term}
use Rattle.qd_sql_ast.specs.declared.tree.Signed.{Signed}
use Rattle.qd_sql_ast.specs.declared.tree.Prime.{Prime}
use Rattle.qd_sql_ast.specs.Steps.{Read, same_kind, is_name}
use Rattle.qd_sql_laws.specs.Parts.{◌⋅◌, Optional, Each, Sign, SignAt, WordAt, IsName}
use Rattle.qd_sql_laws.specs.ExprRules.{IsPrime, IsSigned, IsMulSigned, IsTerm, IsAddTerm, IsPlus, IsCheck, IsTest, IsNeg, IsAndNeg, IsConj, IsOrConj, IsExpr}
use Rattle.qd_sql_laws.specs.Grammar.{Nests}
use Rattle.qd_sql_laws.proofs.Sorts.{not_both, Sort, Has, clash, apart, compared, or_left}
use Rattle.qd_sql_laws.proofs.Judging.{heads, tails, Rule}
use Rattle.qd_sql_laws.proofs.Combining.{Exact}
use Rattle.qd_sql_laws.proofs.ExprExact.{expr_first, expr_last, check_first, muls, adds, the_minuses, the_nots, a_signed, the_multiplied, a_term, the_added, a_plus, a_check, a_neg, the_ands, a_conj, the_ors}
use Rattle.qd_sql_laws.proofs.Depth.{Beyond, memory, beyond, bounds, Deep, lone_expr}

only_one : (t u v : Lexeme) (ts : List Lexeme) → t ∷ (u ∷ ts) ≡ v ∷ [] → ⊥
only_one t u v ts e = cc

module _ (t u : Lexeme) (is : is_name t ≡ true) (opens : same_kind u.kind kind.Open ≡ true) where
  abbrev Second : (List Lexeme → Type 0) → Type 0
  Second P = (us ts : List Lexeme) → P us → us ≡ t ∷ (u ∷ ts) → ⊥

  -- sorts of the first token, and of the second
  no_name : (ss : List Sort) → clash (Sort.name ∷ []) ss ≡ false → (v : Lexeme) → v ≡ t → Has ss v → ⊥
  no_name ss unlike v e h = apart (Sort.name ∷ []) ss unlike t (or_left (is_name t) false is) (subst (λ z. Has ss z) e h)

  no_open : (ss : List Sort) → clash (Sort.sign kind.Open ∷ []) ss ≡ false → Has ss u → ⊥
  no_open ss unlike h = apart (Sort.sign kind.Open ∷ []) ss unlike u (or_left (same_kind u.kind kind.Open) false opens) h

  -- two parts, of which the first isn't empty
  two_parts : {A B : List Lexeme → Type 0} → (A [] → ⊥) → Second A → ((ts : List Lexeme) → B (u ∷ ts) → ⊥) → Second (A ⋅ B)
  two_parts blank one two us ts ([], r, p, a, b) q = blank a
  two_parts {A} {B} blank one two us ts (x ∷ [], r, p, a, b) q = two ts (subst (λ z. B z) (sym (tails t x (u ∷ ts) r (sym q ∙ p))) b)
  two_parts blank one two us ts (x ∷ y ∷ zs, r, p, a, b) q =
      let e : t ∷ (u ∷ ts) ≡ x ∷ (y ∷ (zs ++ r)) = sym q ∙ p in
      let f : u ∷ ts ≡ y ∷ (zs ++ r) = tails t x (u ∷ ts) (y ∷ (zs ++ r)) e in
      one (x ∷ y ∷ zs) zs a (ap₂ (λ v w. v ∷ (w ∷ zs)) (heads t x (u ∷ ts) (y ∷ (zs ++ r)) e) (heads u y ts (zs ++ r) f))

  -- a part in front that may be empty, and begins with no name
  led : {A B : List Lexeme → Type 0} → ((v : Lexeme) (vs : List Lexeme) → A (v ∷ vs) → v ≡ t → ⊥) → Second B → Second (A ⋅ B)
  led front one us ts ([], r, p, a, b) q = one r ts b (sym p ∙ q)
  led front one us ts (x ∷ o, r, p, a, b) q = front x o a (heads t x (u ∷ ts) (o ++ r) (sym q ∙ p))

  module _ (inner : List Lexeme → Read Expr) (I : Rule Expr) (e : (n : ℕ) → Exact n inner I expr_first false expr_last) (d : Bool) where
    dot_open : (n : Name) (vs : List Lexeme) → Optional (λ m. Sign kind.Dot ⋅ IsName m) (Some n) (u ∷ vs) → ⊥
    unfolding compared
    dot_open n vs (o, r, p, (v, f, s), h) =
        no_open (Sort.sign kind.Dot ∷ []) refl (subst (λ z. Has (Sort.sign kind.Dot ∷ []) z) (heads u v vs r (p ∙ ap (λ z. z ++ r) f)) (or_left (same_kind v.kind kind.Dot) false s))

    behind_name : (m : Option Name) (vs : List Lexeme) → Optional (λ n. Sign kind.Dot ⋅ IsName n) m (u ∷ vs) → ⊥
    behind_name None vs h = let q : u ∷ vs ≡ [] = h in absurd (cc)
    behind_name (Some n) vs h = dot_open n vs h

    second_prime : (x : Prime) → Second (IsPrime (I d) x)
    unfolding compared
    second_prime x us ts (IsPrime.number n vs (v, p, h)) q = only_one t u v ts (sym q ∙ p)
    second_prime x us ts (IsPrime.text n vs (v, p, h)) q = only_one t u v ts (sym q ∙ p)
    second_prime x us ts (IsPrime.true_word at vs (v, p, h)) q = only_one t u v ts (sym q ∙ p)
    second_prime x us ts (IsPrime.false_word at vs (v, p, h)) q = only_one t u v ts (sym q ∙ p)
    second_prime x us ts (IsPrime.null_word at vs (v, p, h)) q = only_one t u v ts (sym q ∙ p)
    second_prime x us ts (IsPrime.column c vs (o, r, p, (v, f, h), m)) q =
        behind_name c.second ts (subst (λ z. Optional (λ n. Sign kind.Dot ⋅ IsName n) c.second z) (sym (tails t v (u ∷ ts) r (sym q ∙ p ∙ ap (λ z. z ++ r) f))) m)
    second_prime x us ts (IsPrime.bracket y vs (o, r, p, (v, f, s), m)) q =
        no_name (Sort.sign kind.Open ∷ []) refl v (heads t v (u ∷ ts) r (sym q ∙ p ∙ ap (λ z. z ++ r) f)) (or_left (same_kind v.kind kind.Open) false s)

    second_signed : (x : Signed) → Second (IsSigned (I d) x)
    unfolding compared
    second_signed x us ts (IsSigned.signed ms y vs h) q =
        led {A = Each (SignAt kind.Minus) ms} {B = IsPrime (I d) y} (λ v ws a f. no_name (Sort.sign kind.Minus ∷ []) refl v f ((the_minuses 0).exactly.starts d ms v ws a)) (second_prime y) vs ts h q

    second_term : (x : Term) → Second (IsTerm (I d) x)
    unfolding compared
    second_term x us ts (IsTerm.term y ys vs h) q =
        two_parts {A = IsSigned (I d) y} {B = Each (IsMulSigned (I d)) ys} (λ a. not_both false ((a_signed inner I e 0).exactly.filled d y a) refl) (second_signed y)
        (λ ws b. no_open muls refl ((the_multiplied inner I e 0).exactly.starts d ys u ws b)) vs ts h q

    second_plus : (x : Plus) → Second (IsPlus (I d) x)
    unfolding compared
    second_plus x us ts (IsPlus.plus y ys vs h) q =
        two_parts {A = IsTerm (I d) y} {B = Each (IsAddTerm (I d)) ys} (λ a. not_both false ((a_term inner I e 0).exactly.filled d y a) refl) (second_term y)
        (λ ws b. no_open adds refl ((the_added inner I e 0).exactly.starts d ys u ws b)) vs ts h q

    second_test : (x : Test) → Second (IsTest (I d) x)
    unfolding compared
    second_test x us ts (IsTest.test y c vs h) q =
        two_parts {A = IsPlus (I d) y} {B = IsCheck (I d) c} (λ a. not_both false ((a_plus inner I e 0).exactly.filled d y a) refl) (second_plus y)
        (λ ws b. no_open check_first refl ((a_check inner I e 0).exactly.starts d c u ws b)) vs ts h q

    second_neg : (x : Neg) → Second (IsNeg (I d) x)
    unfolding compared
    second_neg x us ts (IsNeg.neg ns y vs h) q =
        led {A = Each (WordAt (codes "NOT")) ns} {B = IsTest (I d) y} (λ v ws a f. no_name (Sort.word (codes "NOT") ∷ []) refl v f ((the_nots 0).exactly.starts d ns v ws a)) (second_test y) vs ts h q

    second_conj : (x : Conj) → Second (IsConj (I d) x)
    unfolding compared
    second_conj x us ts (IsConj.conj y ys vs h) q =
        two_parts {A = IsNeg (I d) y} {B = Each (IsAndNeg (I d)) ys} (λ a. not_both false ((a_neg inner I e 0).exactly.filled d y a) refl) (second_neg y)
        (λ ws b. no_open (Sort.word (codes "AND") ∷ []) refl ((the_ands inner I e 0).exactly.starts d ys u ws b)) vs ts h q

    second_expr : (x : Expr) → Second (IsExpr (I d) x)
    unfolding compared
    second_expr x us ts (IsExpr.expr y ys vs h) q =
        two_parts {A = IsConj (I d) y} {B = Each (IsOrConj (I d)) ys} (λ a. not_both false ((a_conj inner I e 0).exactly.filled d y a) refl) (second_conj y)
        (λ ws b. no_open (Sort.word (codes "OR") ∷ []) refl ((the_ors inner I e 0).exactly.starts d ys u ws b)) vs ts h q

  second_nests : (depth : ℕ) (x : Expr) → Second (Nests depth x)
  unfolding Nests
  second_nests zero x us ts h q = h
  second_nests (suc depth) x us ts h q = second_expr memory (Beyond (Nests depth)) (beyond (Nests depth) (bounds depth).0 (bounds depth).1 (bounds depth).2 (bounds depth).3) true x us ts h q

  pub second_deep : (depth : ℕ) (d : Bool) (x : Expr) → Second (Deep depth d x)
  second_deep depth false x us ts h q = second_nests depth x us ts h q
  second_deep depth true x us ts (k, h) q = second_nests k x us ts h q

-- a name alone is an expression
pub lone_nests : (depth : ℕ) (t : Lexeme) → is_name t ≡ true → (x : Expr) × Deep (suc depth) false x (t ∷ [])
unfolding Nests
lone_nests depth t is = lone_expr (Nests depth) t is
