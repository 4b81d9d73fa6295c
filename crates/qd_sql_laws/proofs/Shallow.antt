-- A statement by the grammar is one within the limit exactly where its brackets nest no deeper than the limit.
use Rattle.std.proofs.Common.{◌≡◌, ℕ, zero, suc, ◌+◌, ◌≤◌, max, arith, List, [], ◌∷◌, ◌++◌, map, Option, Some, None, refl}
use Rattle.std.specs.List.{flat_map}
use Rattle.std.specs.Prelude.{codes}
use Rattle.qd_base.specs.declared.limits.TheConstants.{MAX_NESTING}
use Rattle.qd_sql_lexer.specs.Tokens.{Lexeme}
use Rattle.qd_sql_lexer.specs.declared.token.Kind.TheVariants as kind
use Rattle.qd_sql_ast.specs.declared.tree.Expr.{Expr}
use Rattle.qd_sql_ast.specs.declared.tree.OrConj.{OrConj}
use Rattle.qd_sql_ast.specs.declared.tree.Conj.{Conj}
use Rattle.qd_sql_ast.specs.declared.tree.AndNeg.{AndNeg}
use Rattle.qd_sql_ast.specs.declared.tree.Neg.{Neg}
use Rattle.qd_sql_ast.specs.declared.tree.Test.{Test}
use Rattle.qd_sql_ast.specs.declared.tree.Check.{Check}
use Rattle.qd_sql_ast.specs.declared.tree.Plus.{Plus}
use Rattle.qd_sql_ast.specs.declared.tree.AddTerm.{AddTerm}
use Rattle.qd_sql_ast.specs.declared.tree.Term.{Term}
use Rattle.qd_sql_ast.specs.declared.tree.MulSigned.{MulSigned}
use Rattle.qd_sql_ast.specs.declared.tree.Signed.{Signed}
use Rattle.qd_sql_ast.specs.declared.tree.Prime.{Prime}
use Rattle.qd_sql_ast.specs.declared.tree.Filter.{Filter}
use Rattle.qd_sql_ast.specs.declared.tree.Item.{Item}
use Rattle.qd_sql_ast.specs.declared.tree.Query.{Query}
use Rattle.qd_sql_ast.specs.declared.tree.Selected.{Selected}
use Rattle.qd_sql_ast.specs.declared.tree.Selected.TheVariants as select
use Rattle.qd_sql_ast.specs.declared.tree.Shown.{Shown}
use Rattle.qd_sql_ast.specs.declared.tree.Shown.TheVariants as shows
use Rattle.qd_sql_ast.specs.declared.tree.Stmt.{Stmt}
use Rattle.qd_sql_ast.specs.declared.tree.Stmt.TheVariants as is
use Rattle.qd_sql_ast.specs.Nesting.{Words, deepest, depth_check, depth_prime, depth_add_term, depth_and_neg, depth_conj, depth_mul_signed, depth_neg, depth_or_conj, depth_plus, depth_signed, depth_term, depth_test, brackets, brackets_in, expressions_shown, expressions_selected, expressions_tested}
use Rattle.qd_sql_ast.proofs.Nested.{expr_deep, or_conj_deep, conj_deep, and_neg_deep, neg_deep, test_deep, plus_deep, add_term_deep, term_deep, mul_signed_deep, signed_deep, nothing_deep, compare_deep, in_list_deep, in_text_deep, is_null_deep, is_not_null_deep, number_value_deep, text_value_deep, true_value_deep, false_value_deep, null_value_deep, column_value_deep, bracket_value_deep}
use Rattle.qd_sql_laws.specs.Parts.{◌⋅◌, Optional, Each, Sign, Word}
use Rattle.qd_sql_laws.specs.ExprRules.{IsPrime, IsSigned, IsMulSigned, IsTerm, IsAddTerm, IsPlus, IsCheck, IsTest, IsNeg, IsAndNeg, IsConj, IsOrConj, IsExpr}
use Rattle.qd_sql_laws.specs.QueryRules.{IsShown, IsItem, IsItems, IsFilter, IsQuery}
use Rattle.qd_sql_laws.specs.Grammar.{Nests, NestsAnyhow, IsStmt, ReadsSql, ReadsShallowSql}
use Rattle.qd_sql_laws.proofs.WholeExact.{deepen}

-- brackets alone are counted
abbrev words : Words
words places = 0

low_by : (n m d : ℕ) → n ≡ m → m ≤ d → n ≤ d
low_by n m d e h = omega (arith, e, h)

low_flat : (n d : ℕ) → n ≡ 0 → n ≤ d
low_flat n d e = omega (arith, e)

low_both : (n a b d : ℕ) → n ≡ max a b → a ≤ d → b ≤ d → n ≤ d
low_both n a b d e h k = omega (arith, e, h, k)

left_low : (n a b d : ℕ) → n ≡ max a b → n ≤ d → a ≤ d
left_low n a b d e h = omega (arith, e, h)

right_low : (n a b d : ℕ) → n ≡ max a b → n ≤ d → b ≤ d
right_low n a b d e h = omega (arith, e, h)

same_low : (n m d : ℕ) → n ≡ m → n ≤ d → m ≤ d
same_low n m d e h = omega (arith, e, h)

behind_low : (n m d : ℕ) → n ≡ 0 + m → n ≤ d → m ≤ d
behind_low n m d e h = omega (arith, e, h)

low_behind : (n m d : ℕ) → n ≡ 0 + m → m ≤ d → n ≤ d
low_behind n m d e h = omega (arith, e, h)

-- each of several
each_low : {A : Type 0} (P : A → List Lexeme → Type 0) (g : A → ℕ) (d : ℕ) → ((y : A) (ts : List Lexeme) → P y ts → g y ≤ d) → (ys : List A) (ts : List Lexeme) → Each P ys ts → deepest (map g ys) ≤ d
each_low P g d f [] ts h = omega arith
each_low P g d f (y ∷ ys) ts (o, r, p, x, more) = low_both (max (g y) (deepest (map g ys))) (g y) (deepest (map g ys)) d refl (f y o x) (each_low P g d f ys r more)

each_back : {A : Type 0} (P Q : A → List Lexeme → Type 0) (g : A → ℕ) (d : ℕ) → ((y : A) (ts : List Lexeme) → P y ts → g y ≤ d → Q y ts) → (ys : List A) (ts : List Lexeme) → Each P ys ts → deepest (map g ys) ≤ d → Each Q ys ts
each_back P Q g d f [] ts h k = h
each_back P Q g d f (y ∷ ys) ts (o, r, p, x, more) k =
    (o, r, p, f y o x (left_low (max (g y) (deepest (map g ys))) (g y) (deepest (map g ys)) d refl k), each_back P Q g d f ys r more (right_low (max (g y) (deepest (map g ys))) (g y) (deepest (map g ys)) d refl k))

-- where what stands in brackets nests so deep, each rule does
module _ (I : Expr → List Lexeme → Type 0) (d : ℕ) (f : (e : Expr) (ts : List Lexeme) → I e ts → brackets e + 1 ≤ d) where
  prime_low : (x : Prime) (ts : List Lexeme) → IsPrime I x ts → depth_prime words x ≤ d
  prime_low x ts (IsPrime.number n us h) = low_flat _ d (number_value_deep words n)
  prime_low x ts (IsPrime.text t us h) = low_flat _ d (text_value_deep words t)
  prime_low x ts (IsPrime.true_word at us h) = low_flat _ d (true_value_deep words at)
  prime_low x ts (IsPrime.false_word at us h) = low_flat _ d (false_value_deep words at)
  prime_low x ts (IsPrime.null_word at us h) = low_flat _ d (null_value_deep words at)
  prime_low x ts (IsPrime.column c us h) = low_flat _ d (column_value_deep words c)
  prime_low x ts (IsPrime.bracket e us (o, r, p, a, (o₂, r₂, p₂, b, c))) = low_by _ (brackets e + 1) d (bracket_value_deep words e) (f e o₂ b)

  signed_low : (x : Signed) (ts : List Lexeme) → IsSigned I x ts → depth_signed words x ≤ d
  signed_low x ts (IsSigned.signed ms y us (o, r, p, a, b)) = low_behind _ (depth_prime words y) d (signed_deep words ms y) (prime_low y r b)

  mul_signed_low : (x : MulSigned) (ts : List Lexeme) → IsMulSigned I x ts → depth_mul_signed words x ≤ d
  mul_signed_low x ts (IsMulSigned.multiplied op at y us (o, r, p, a, b)) = low_by _ (depth_signed words y) d (mul_signed_deep words op at y) (signed_low y r b)

  term_low : (x : Term) (ts : List Lexeme) → IsTerm I x ts → depth_term words x ≤ d
  term_low x ts (IsTerm.term y ys us (o, r, p, a, b)) =
      low_both _ (depth_signed words y) (deepest (map (depth_mul_signed words) ys)) d (term_deep words y ys) (signed_low y o a) (each_low (IsMulSigned I) (depth_mul_signed words) d mul_signed_low ys r b)

  add_term_low : (x : AddTerm) (ts : List Lexeme) → IsAddTerm I x ts → depth_add_term words x ≤ d
  add_term_low x ts (IsAddTerm.added op at y us (o, r, p, a, b)) = low_by _ (depth_term words y) d (add_term_deep words op at y) (term_low y r b)

  plus_low : (x : Plus) (ts : List Lexeme) → IsPlus I x ts → depth_plus words x ≤ d
  plus_low x ts (IsPlus.plus y ys us (o, r, p, a, b)) =
      low_both _ (depth_term words y) (deepest (map (depth_add_term words) ys)) d (plus_deep words y ys) (term_low y o a) (each_low (IsAddTerm I) (depth_add_term words) d add_term_low ys r b)

  check_low : (x : Check) (ts : List Lexeme) → IsCheck I x ts → depth_check words x ≤ d
  check_low x ts (IsCheck.nothing us h) = low_flat _ d (nothing_deep words)
  check_low x ts (IsCheck.compares op at y us (o, r, p, a, b)) = low_by _ (depth_plus words y) d (compare_deep words op at y) (plus_low y r b)
  check_low x ts (IsCheck.in_list at ls us h) = low_flat _ d (in_list_deep words at ls)
  check_low x ts (IsCheck.in_text at t us h) = low_flat _ d (in_text_deep words at t)
  check_low x ts (IsCheck.is_null at us h) = low_flat _ d (is_null_deep words at)
  check_low x ts (IsCheck.is_not_null at us h) = low_flat _ d (is_not_null_deep words at)

  test_low : (x : Test) (ts : List Lexeme) → IsTest I x ts → depth_test words x ≤ d
  test_low x ts (IsTest.test y c us (o, r, p, a, b)) = low_both _ (depth_plus words y) (depth_check words c) d (test_deep words y c) (plus_low y o a) (check_low c r b)

  neg_low : (x : Neg) (ts : List Lexeme) → IsNeg I x ts → depth_neg words x ≤ d
  neg_low x ts (IsNeg.neg ns y us (o, r, p, a, b)) = low_behind _ (depth_test words y) d (neg_deep words ns y) (test_low y r b)

  and_neg_low : (x : AndNeg) (ts : List Lexeme) → IsAndNeg I x ts → depth_and_neg words x ≤ d
  and_neg_low x ts (IsAndNeg.and_neg at y us (o, r, p, a, b)) = low_by _ (depth_neg words y) d (and_neg_deep words at y) (neg_low y r b)

  conj_low : (x : Conj) (ts : List Lexeme) → IsConj I x ts → depth_conj words x ≤ d
  conj_low x ts (IsConj.conj y ys us (o, r, p, a, b)) =
      low_both _ (depth_neg words y) (deepest (map (depth_and_neg words) ys)) d (conj_deep words y ys) (neg_low y o a) (each_low (IsAndNeg I) (depth_and_neg words) d and_neg_low ys r b)

  or_conj_low : (x : OrConj) (ts : List Lexeme) → IsOrConj I x ts → depth_or_conj words x ≤ d
  or_conj_low x ts (IsOrConj.or_conj at y us (o, r, p, a, b)) = low_by _ (depth_conj words y) d (or_conj_deep words at y) (conj_low y r b)

  expr_low : (x : Expr) (ts : List Lexeme) → IsExpr I x ts → brackets x ≤ d
  expr_low x ts (IsExpr.expr y ys us (o, r, p, a, b)) =
      low_both _ (depth_conj words y) (deepest (map (depth_or_conj words) ys)) d (expr_deep words y ys) (conj_low y o a) (each_low (IsOrConj I) (depth_or_conj words) d or_conj_low ys r b)

-- where what stands in brackets is another one as far as it nests less deep, each rule is
module _ (I J : Expr → List Lexeme → Type 0) (d : ℕ) (f : (e : Expr) (ts : List Lexeme) → I e ts → brackets e + 1 ≤ d → J e ts) where
  prime_back : (x : Prime) (ts : List Lexeme) → IsPrime I x ts → depth_prime words x ≤ d → IsPrime J x ts
  prime_back x ts (IsPrime.number n us h) k = IsPrime.number n us h
  prime_back x ts (IsPrime.text t us h) k = IsPrime.text t us h
  prime_back x ts (IsPrime.true_word at us h) k = IsPrime.true_word at us h
  prime_back x ts (IsPrime.false_word at us h) k = IsPrime.false_word at us h
  prime_back x ts (IsPrime.null_word at us h) k = IsPrime.null_word at us h
  prime_back x ts (IsPrime.column c us h) k = IsPrime.column c us h
  prime_back x ts (IsPrime.bracket e us (o, r, p, a, (o₂, r₂, p₂, b, c))) k =
      IsPrime.bracket e us (o, r, p, a, (o₂, r₂, p₂, f e o₂ b (same_low _ (brackets e + 1) d (bracket_value_deep words e) k), c))

  signed_back : (x : Signed) (ts : List Lexeme) → IsSigned I x ts → depth_signed words x ≤ d → IsSigned J x ts
  signed_back x ts (IsSigned.signed ms y us (o, r, p, a, b)) k = IsSigned.signed ms y us (o, r, p, a, prime_back y r b (behind_low _ (depth_prime words y) d (signed_deep words ms y) k))

  mul_signed_back : (x : MulSigned) (ts : List Lexeme) → IsMulSigned I x ts → depth_mul_signed words x ≤ d → IsMulSigned J x ts
  mul_signed_back x ts (IsMulSigned.multiplied op at y us (o, r, p, a, b)) k =
      IsMulSigned.multiplied op at y us (o, r, p, a, signed_back y r b (same_low _ (depth_signed words y) d (mul_signed_deep words op at y) k))

  term_back : (x : Term) (ts : List Lexeme) → IsTerm I x ts → depth_term words x ≤ d → IsTerm J x ts
  term_back x ts (IsTerm.term y ys us (o, r, p, a, b)) k =
      let e = term_deep words y ys in
      IsTerm.term y ys us (
        o,
        r,
        p,
        signed_back y o a (left_low _ (depth_signed words y) (deepest (map (depth_mul_signed words) ys)) d e k),
        each_back (IsMulSigned I) (IsMulSigned J) (depth_mul_signed words) d mul_signed_back ys r b (right_low _ (depth_signed words y) (deepest (map (depth_mul_signed words) ys)) d e k),
      )

  add_term_back : (x : AddTerm) (ts : List Lexeme) → IsAddTerm I x ts → depth_add_term words x ≤ d → IsAddTerm J x ts
  add_term_back x ts (IsAddTerm.added op at y us (o, r, p, a, b)) k =
      IsAddTerm.added op at y us (o, r, p, a, term_back y r b (same_low _ (depth_term words y) d (add_term_deep words op at y) k))

  plus_back : (x : Plus) (ts : List Lexeme) → IsPlus I x ts → depth_plus words x ≤ d → IsPlus J x ts
  plus_back x ts (IsPlus.plus y ys us (o, r, p, a, b)) k =
      let e = plus_deep words y ys in
      IsPlus.plus y ys us (
        o,
        r,
        p,
        term_back y o a (left_low _ (depth_term words y) (deepest (map (depth_add_term words) ys)) d e k),
        each_back (IsAddTerm I) (IsAddTerm J) (depth_add_term words) d add_term_back ys r b (right_low _ (depth_term words y) (deepest (map (depth_add_term words) ys)) d e k),
      )

  check_back : (x : Check) (ts : List Lexeme) → IsCheck I x ts → depth_check words x ≤ d → IsCheck J x ts
  check_back x ts (IsCheck.nothing us h) k = IsCheck.nothing us h
  check_back x ts (IsCheck.compares op at y us (o, r, p, a, b)) k =
      IsCheck.compares op at y us (o, r, p, a, plus_back y r b (same_low _ (depth_plus words y) d (compare_deep words op at y) k))
  check_back x ts (IsCheck.in_list at ls us h) k = IsCheck.in_list at ls us h
  check_back x ts (IsCheck.in_text at t us h) k = IsCheck.in_text at t us h
  check_back x ts (IsCheck.is_null at us h) k = IsCheck.is_null at us h
  check_back x ts (IsCheck.is_not_null at us h) k = IsCheck.is_not_null at us h

  test_back : (x : Test) (ts : List Lexeme) → IsTest I x ts → depth_test words x ≤ d → IsTest J x ts
  test_back x ts (IsTest.test y c us (o, r, p, a, b)) k =
      let e = test_deep words y c in
      IsTest.test y c us (o, r, p, plus_back y o a (left_low _ (depth_plus words y) (depth_check words c) d e k), check_back c r b (right_low _ (depth_plus words y) (depth_check words c) d e k))

  neg_back : (x : Neg) (ts : List Lexeme) → IsNeg I x ts → depth_neg words x ≤ d → IsNeg J x ts
  neg_back x ts (IsNeg.neg ns y us (o, r, p, a, b)) k = IsNeg.neg ns y us (o, r, p, a, test_back y r b (behind_low _ (depth_test words y) d (neg_deep words ns y) k))

  and_neg_back : (x : AndNeg) (ts : List Lexeme) → IsAndNeg I x ts → depth_and_neg words x ≤ d → IsAndNeg J x ts
  and_neg_back x ts (IsAndNeg.and_neg at y us (o, r, p, a, b)) k = IsAndNeg.and_neg at y us (o, r, p, a, neg_back y r b (same_low _ (depth_neg words y) d (and_neg_deep words at y) k))

  conj_back : (x : Conj) (ts : List Lexeme) → IsConj I x ts → depth_conj words x ≤ d → IsConj J x ts
  conj_back x ts (IsConj.conj y ys us (o, r, p, a, b)) k =
      let e = conj_deep words y ys in
      IsConj.conj y ys us (
        o,
        r,
        p,
        neg_back y o a (left_low _ (depth_neg words y) (deepest (map (depth_and_neg words) ys)) d e k),
        each_back (IsAndNeg I) (IsAndNeg J) (depth_and_neg words) d and_neg_back ys r b (right_low _ (depth_neg words y) (deepest (map (depth_and_neg words) ys)) d e k),
      )

  or_conj_back : (x : OrConj) (ts : List Lexeme) → IsOrConj I x ts → depth_or_conj words x ≤ d → IsOrConj J x ts
  or_conj_back x ts (IsOrConj.or_conj at y us (o, r, p, a, b)) k = IsOrConj.or_conj at y us (o, r, p, a, conj_back y r b (same_low _ (depth_conj words y) d (or_conj_deep words at y) k))

  expr_back : (x : Expr) (ts : List Lexeme) → IsExpr I x ts → brackets x ≤ d → IsExpr J x ts
  expr_back x ts (IsExpr.expr y ys us (o, r, p, a, b)) k =
      let e = expr_deep words y ys in
      IsExpr.expr y ys us (
        o,
        r,
        p,
        conj_back y o a (left_low _ (depth_conj words y) (deepest (map (depth_or_conj words) ys)) d e k),
        each_back (IsOrConj I) (IsOrConj J) (depth_or_conj words) d or_conj_back ys r b (right_low _ (depth_conj words y) (deepest (map (depth_or_conj words) ys)) d e k),
      )

-- what nests less deep than a number
nests_low : (d : ℕ) (e : Expr) (ts : List Lexeme) → Nests d e ts → brackets e + 1 ≤ d
unfolding Nests
nests_low zero e ts h = absurd h
nests_low (suc d) e ts h = let k = expr_low (Nests d) d (nests_low d) e ts h in omega (arith, k)

low_nests : (k d : ℕ) (e : Expr) (ts : List Lexeme) → Nests k e ts → brackets e + 1 ≤ d → Nests d e ts
unfolding Nests
low_nests zero d e ts h low = absurd h
low_nests (suc k) zero e ts h low = absurd (omega (arith, low))
low_nests (suc k) (suc d) e ts h low = expr_back (Nests k) (Nests d) d (λ x us y l. low_nests k d x us y l) e ts h (omega (arith, low))

-- ---- the expressions of a statement

-- these nest no deeper than a number
abbrev Low : ℕ → List Expr → Type 0
Low d es = deepest (map brackets es) ≤ d

low_front : (d : ℕ) (es fs : List Expr) → Low d (es ++ fs) → Low d es
low_front d [] fs h = omega arith
low_front d (e ∷ es) fs h =
    low_both _ (brackets e) (deepest (map brackets es)) d refl (left_low _ (brackets e) (deepest (map brackets (es ++ fs))) d refl h)
    (low_front d es fs (right_low _ (brackets e) (deepest (map brackets (es ++ fs))) d refl h))

low_rest : (d : ℕ) (es fs : List Expr) → Low d (es ++ fs) → Low d fs
low_rest d [] fs h = h
low_rest d (e ∷ es) fs h = low_rest d es fs (right_low _ (brackets e) (deepest (map brackets (es ++ fs))) d refl h)

low_append : (d : ℕ) (es fs : List Expr) → Low d es → Low d fs → Low d (es ++ fs)
low_append d [] fs h k = k
low_append d (e ∷ es) fs h k =
    low_both _ (brackets e) (deepest (map brackets (es ++ fs))) d refl (left_low _ (brackets e) (deepest (map brackets es)) d refl h)
    (low_append d es fs (right_low _ (brackets e) (deepest (map brackets es)) d refl h) k)

low_alone : (d : ℕ) (e : Expr) → brackets e ≤ d → Low d (e ∷ [])
low_alone d e h = low_both _ (brackets e) 0 d refl h (omega arith)

alone_low : (d : ℕ) (e : Expr) → Low d (e ∷ []) → brackets e ≤ d
alone_low d e h = left_low _ (brackets e) 0 d refl h

abbrev shown_in : Item → List Expr
shown_in i = expressions_shown i.shown

-- so many levels, with the expression's own
module _ (d : ℕ) where
  abbrev Within : Expr → List Lexeme → Type 0
  Within = Nests (d + 1)

  within_low : (e : Expr) (ts : List Lexeme) → Within e ts → brackets e ≤ d
  within_low e ts h = let k = nests_low (d + 1) e ts h in omega (arith, k)

  low_within : (e : Expr) (ts : List Lexeme) → NestsAnyhow e ts → brackets e ≤ d → Within e ts
  low_within e ts (k, h) low = low_nests k (d + 1) e ts h (omega (arith, low))

  shown_low : (s : Shown) (ts : List Lexeme) → IsShown Within s ts → Low d (expressions_shown s)
  shown_low (shows.Count at) ts h = omega arith
  shown_low (shows.Agg of at e) ts (o, r, p, a, (o₂, r₂, p₂, b, (o₃, r₃, p₃, c, z))) = low_alone d e (within_low e o₃ c)
  shown_low (shows.Expr e) ts h = low_alone d e (within_low e ts h)

  low_shown : (s : Shown) (ts : List Lexeme) → IsShown NestsAnyhow s ts → Low d (expressions_shown s) → IsShown Within s ts
  low_shown (shows.Count at) ts h low = h
  low_shown (shows.Agg of at e) ts (o, r, p, a, (o₂, r₂, p₂, b, (o₃, r₃, p₃, c, z))) low = (o, r, p, a, (o₂, r₂, p₂, b, (o₃, r₃, p₃, low_within e o₃ c (alone_low d e low), z)))
  low_shown (shows.Expr e) ts h low = low_within e ts h (alone_low d e low)

  item_low : (i : Item) (ts : List Lexeme) → IsItem Within i ts → Low d (shown_in i)
  item_low i ts (o, r, p, a, b) = shown_low i.shown o a

  low_item : (i : Item) (ts : List Lexeme) → IsItem NestsAnyhow i ts → Low d (shown_in i) → IsItem Within i ts
  low_item i ts (o, r, p, a, b) low = (o, r, p, low_shown i.shown o a low, b)

  more_low : (is : List Item) (ts : List Lexeme) → Each (λ i. Sign kind.Comma ⋅ IsItem Within i) is ts → Low d (flat_map shown_in is)
  more_low [] ts h = omega arith
  more_low (i ∷ is) ts (o, r, p, (o₂, r₂, p₂, c, a), b) = low_append d (shown_in i) (flat_map shown_in is) (item_low i r₂ a) (more_low is r b)

  low_more : (is : List Item) (ts : List Lexeme) → Each (λ i. Sign kind.Comma ⋅ IsItem NestsAnyhow i) is ts → Low d (flat_map shown_in is) → Each (λ i. Sign kind.Comma ⋅ IsItem Within i) is ts
  low_more [] ts h low = h
  low_more (i ∷ is) ts (o, r, p, (o₂, r₂, p₂, c, a), b) low =
      (o, r, p, (o₂, r₂, p₂, c, low_item i r₂ a (low_front d (shown_in i) (flat_map shown_in is) low)), low_more is r b (low_rest d (shown_in i) (flat_map shown_in is) low))

  items_low : (s : Selected) (ts : List Lexeme) → IsItems Within s ts → Low d (expressions_selected (Some s))
  items_low (select.All at) ts h = omega arith
  items_low (select.Items []) ts h = absurd h
  items_low (select.Items (i ∷ is)) ts (o, r, p, a, b) = low_append d (shown_in i) (flat_map shown_in is) (item_low i o a) (more_low is r b)

  low_items : (s : Selected) (ts : List Lexeme) → IsItems NestsAnyhow s ts → Low d (expressions_selected (Some s)) → IsItems Within s ts
  low_items (select.All at) ts h low = h
  low_items (select.Items []) ts h low = absurd h
  low_items (select.Items (i ∷ is)) ts (o, r, p, a, b) low =
      (o, r, p, low_item i o a (low_front d (shown_in i) (flat_map shown_in is) low), low_more is r b (low_rest d (shown_in i) (flat_map shown_in is) low))

  abbrev Selects : (Expr → List Lexeme → Type 0) → Option Selected → List Lexeme → Type 0
  Selects I s = Optional (λ s. Word (codes "SELECT") ⋅ IsItems I s ⋅ Word (codes "FROM")) s

  selected_low : (s : Option Selected) (ts : List Lexeme) → Selects Within s ts → Low d (expressions_selected s)
  selected_low None ts h = omega arith
  selected_low (Some s) ts (o, r, p, a, (o₂, r₂, p₂, b, c)) = items_low s o₂ b

  low_selected : (s : Option Selected) (ts : List Lexeme) → Selects NestsAnyhow s ts → Low d (expressions_selected s) → Selects Within s ts
  low_selected None ts h low = h
  low_selected (Some s) ts (o, r, p, a, (o₂, r₂, p₂, b, c)) low = (o, r, p, a, (o₂, r₂, p₂, low_items s o₂ b low, c))

  tested_low : (f : Option Filter) (ts : List Lexeme) → Optional (IsFilter Within) f ts → Low d (expressions_tested f)
  tested_low None ts h = omega arith
  tested_low (Some f) ts (o, r, p, a, b) = low_alone d f.test (within_low f.test r b)

  low_tested : (f : Option Filter) (ts : List Lexeme) → Optional (IsFilter NestsAnyhow) f ts → Low d (expressions_tested f) → Optional (IsFilter Within) f ts
  low_tested None ts h low = h
  low_tested (Some f) ts (o, r, p, a, b) low = (o, r, p, a, low_within f.test r b (alone_low d f.test low))

  query_low : (q : Query) (ts : List Lexeme) → IsQuery Within q ts → Low d (expressions_selected q.selected ++ expressions_tested q.filter)
  query_low q ts (o, r, p, a, (o₂, r₂, p₂, b, (o₃, r₃, p₃, c, (o₄, r₄, p₄, f, rest)))) =
      low_append d (expressions_selected q.selected) (expressions_tested q.filter) (selected_low q.selected o a) (tested_low q.filter o₄ f)

  low_query : (q : Query) (ts : List Lexeme) → IsQuery NestsAnyhow q ts → Low d (expressions_selected q.selected ++ expressions_tested q.filter) → IsQuery Within q ts
  low_query q ts (o, r, p, a, (o₂, r₂, p₂, b, (o₃, r₃, p₃, c, (o₄, r₄, p₄, f, rest)))) low = (
    o,
    r,
    p,
    low_selected q.selected o a (low_front d (expressions_selected q.selected) (expressions_tested q.filter) low),
    (o₂, r₂, p₂, b, (o₃, r₃, p₃, c, (o₄, r₄, p₄, low_tested q.filter o₄ f (low_rest d (expressions_selected q.selected) (expressions_tested q.filter) low), rest))),
  )

  stmt_low : (s : Stmt) (ts : List Lexeme) → IsStmt Within s ts → brackets_in s ≤ d
  stmt_low (is.Query q) ts h = query_low q ts h
  stmt_low (is.Create c) ts h = omega arith
  stmt_low (is.Insert i) ts h = omega arith
  stmt_low (is.Alter a) ts h = omega arith
  stmt_low (is.Show name place) ts h = omega arith

  low_stmt : (s : Stmt) (ts : List Lexeme) → IsStmt NestsAnyhow s ts → brackets_in s ≤ d → IsStmt Within s ts
  low_stmt (is.Query q) ts h low = low_query q ts h low
  low_stmt (is.Create c) ts h low = h
  low_stmt (is.Insert i) ts h low = h
  low_stmt (is.Alter a) ts h low = h
  low_stmt (is.Show name place) ts h low = h

pub shallow_low : (ts : List Lexeme) (s : Stmt) → ReadsShallowSql ts s → ReadsSql ts s × (brackets_in s ≤ MAX_NESTING)
shallow_low ts s (o, r, p, x, y) = (deepen ts s (o, r, p, x, y), stmt_low MAX_NESTING s o x)

pub low_shallow : (ts : List Lexeme) (s : Stmt) → ReadsSql ts s × (brackets_in s ≤ MAX_NESTING) → ReadsShallowSql ts s
low_shallow ts s ((o, r, p, x, y), low) = (o, r, p, low_stmt MAX_NESTING s o x low, y)
