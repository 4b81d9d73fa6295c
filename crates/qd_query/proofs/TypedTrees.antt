-- What an expression of a statement becomes is typed.
use Rattle.std.proofs.Common.{◌≡◌, true, false, map, sym, ap, ◌∙◌, subst}
use Rattle.std.specs.Prelude.{pos}
use Rattle.qd_sql_ast.specs.declared.tree.Check.{Check, roll-Check}
use Rattle.qd_sql_ast.specs.declared.tree.Prime.{Prime, map-Prime, roll-Prime}
use Rattle.qd_sql_ast.specs.declared.tree.AddTerm.{AddTerm}
use Rattle.qd_sql_ast.specs.declared.tree.AndNeg.{AndNeg}
use Rattle.qd_sql_ast.specs.declared.tree.Conj.{Conj, roll-Conj}
use Rattle.qd_sql_ast.specs.declared.tree.Expr.{Expr, roll-Expr}
use Rattle.qd_sql_ast.specs.declared.tree.MulSigned.{MulSigned}
use Rattle.qd_sql_ast.specs.declared.tree.Neg.{Neg, roll-Neg}
use Rattle.qd_sql_ast.specs.declared.tree.OrConj.{OrConj}
use Rattle.qd_sql_ast.specs.declared.tree.Plus.{Plus, roll-Plus}
use Rattle.qd_sql_ast.specs.declared.tree.Signed.{Signed, roll-Signed}
use Rattle.qd_sql_ast.specs.declared.tree.Term.{Term, roll-Term}
use Rattle.qd_sql_ast.specs.declared.tree.Test.{Test, roll-Test}
use Rattle.qd_sql_ast.specs.declared.tree.Check.TheVariants.{rolls-Nothing, rolls-Compare, rolls-InList, rolls-InText, rolls-IsNull, rolls-IsNotNull}
use Rattle.qd_sql_ast.specs.declared.tree.Prime.TheVariants.{rolls-Column, rolls-Number, rolls-Text, rolls-True, rolls-False, rolls-Null, rolls-Bracket}
use Rattle.qd_sql_ast.specs.declared.tree.Check.TheOpen.{Check-F, Prime-F}
use Rattle.qd_sql_ast.specs.declared.tree.Check.TheFolds.{ind-Expr}
use Rattle.qd_value.specs.declared.bound.Bound.TheVariants as is
use Rattle.qd_meaning.specs.Scopes.{Scope}
use Rattle.qd_meaning.specs.Typing as typing
use Rattle.qd_meaning.specs.Typing.{Typed}
use Rattle.qd_meaning.specs.TimeTexts.{interval_of_text}
use Rattle.qd_meaning.specs.Binding.{behind_all, comparison_of, typed, typed_add_term, typed_and_neg, typed_check, typed_conj, typed_mul_signed, typed_neg, typed_or_conj, typed_plus, typed_prime, typed_signed, typed_term, typed_test}
use Rattle.qd_meaning.specs.Bindings.{BindingsFollow}
use Rattle.qd_query.proofs.TypedValues.{IsTyped, columns_in, of_all, of_any, of_bool, of_chain, of_comparison, of_interval, of_is_null, of_list, of_minuses, of_named, of_nots, of_null, of_number, of_opposite, of_text}

module _ (follow : BindingsFollow) (scope : Scope) where
  abbrev IsGoodCheck : Check → Type 0
  IsGoodCheck c = (x : Typed) → IsTyped (columns_in scope) x → IsTyped (columns_in scope) (typed_check scope c x)

  by : (x y : Typed) → x ≡ y → IsTyped (columns_in scope) y → IsTyped (columns_in scope) x
  by x y same h = subst (IsTyped (columns_in scope)) (sym same) h

  of_check : (c : Check-F Check Prime AddTerm AndNeg Conj Expr MulSigned Neg OrConj Plus Signed Term Test) → IsGoodCheck (roll-Check c)
  of_check Check-F.Nothing x h = by (typed_check scope (roll-Check Check-F.Nothing) x) x (ap (λ (c : Check). typed_check scope c x) rolls-Nothing ∙ follow.alone scope x) h
  of_check (Check-F.Compare op at y) x h =
      by (typed_check scope (roll-Check (Check-F.Compare op at y)) x) (typing.compared (comparison_of op) at x (typed_plus scope y)) (ap (λ (c : Check). typed_check scope c x) (rolls-Compare op at y) ∙ follow.compare scope op at y x)
      (of_comparison (columns_in scope) (comparison_of op) at x (typed_plus scope y))
  of_check (Check-F.InList at lits) x h =
      by (typed_check scope (roll-Check (Check-F.InList at lits)) x) (typing.in_list x at lits) (ap (λ (c : Check). typed_check scope c x) (rolls-InList at lits) ∙ follow.in_list scope at lits x)
      (of_list (columns_in scope) x at (map (λ l. typing.constant_beside x.class (typing.constant_of l)) lits))
  of_check (Check-F.InText at t) x h =
      by (typed_check scope (roll-Check (Check-F.InText at t)) x) (typing.in_text x at t.text t.at) (ap (λ (c : Check). typed_check scope c x) (rolls-InText at t) ∙ follow.in_text scope at t x)
      (of_interval (columns_in scope) x at t.at (interval_of_text t.text))
  of_check (Check-F.IsNull at) x h =
      by (typed_check scope (roll-Check (Check-F.IsNull at)) x) (typing.is_null x) (ap (λ (c : Check). typed_check scope c x) (rolls-IsNull at) ∙ follow.null scope at x) (of_is_null (columns_in scope) x)
  of_check (Check-F.IsNotNull at) x h =
      by (typed_check scope (roll-Check (Check-F.IsNotNull at)) x) (typing.opposite (typing.is_null x)) (ap (λ (c : Check). typed_check scope c x) (rolls-IsNotNull at) ∙ follow.not_null scope at x) (of_opposite (columns_in scope) (typing.is_null x))

  abbrev IsGoodPrime : Prime → Type 0
  IsGoodPrime p = IsTyped (columns_in scope) (typed_prime scope p)

  abbrev IsGoodBracket : Prime-F Check Prime AddTerm AndNeg Conj Expr MulSigned Neg OrConj Plus Signed Term Test → Type 0
  IsGoodBracket (Prime-F.Bracket e) = IsTyped (columns_in scope) (typed scope e)
  IsGoodBracket _ = Unit {0}

  of_prime : (p : Prime-F Check Prime AddTerm AndNeg Conj Expr MulSigned Neg OrConj Plus Signed Term Test) → IsGoodBracket p → IsGoodPrime (roll-Prime p)
  of_prime (Prime-F.Number n) h =
      by (typed_prime scope (roll-Prime (Prime-F.Number n))) (typing.literal (typing.constant_number (pos n.value) false n.at)) (ap (typed_prime scope) (rolls-Number n) ∙ follow.number scope n) (of_number (columns_in scope) (pos n.value) false n.at)
  of_prime (Prime-F.Text t) h =
      by (typed_prime scope (roll-Prime (Prime-F.Text t))) (typing.literal (typing.constant_text t.text t.at)) (ap (typed_prime scope) (rolls-Text t) ∙ follow.text scope t) (of_text (columns_in scope) t.text t.at)
  of_prime (Prime-F.True at) h = by (typed_prime scope (roll-Prime (Prime-F.True at))) (typing.literal (typing.constant_truth true)) (ap (typed_prime scope) (rolls-True at) ∙ follow.true_word scope at) (of_bool (columns_in scope) true)
  of_prime (Prime-F.False at) h = by (typed_prime scope (roll-Prime (Prime-F.False at))) (typing.literal (typing.constant_truth false)) (ap (typed_prime scope) (rolls-False at) ∙ follow.false_word scope at) (of_bool (columns_in scope) false)
  of_prime (Prime-F.Null at) h = by (typed_prime scope (roll-Prime (Prime-F.Null at))) (typing.literal typing.constant_null) (ap (typed_prime scope) (rolls-Null at) ∙ follow.null_word scope at) (of_null (columns_in scope))
  of_prime (Prime-F.Column c) h = subst (IsTyped (columns_in scope)) (sym (ap (typed_prime scope) (rolls-Column c) ∙ follow.column scope c)) (of_named scope c)
  of_prime (Prime-F.Bracket e) h = by (typed_prime scope (roll-Prime (Prime-F.Bracket e))) (typed scope e) (ap (typed_prime scope) (rolls-Bracket e) ∙ follow.bracket scope e) h

  -- what is in brackets is typed, where each expression below is
  held : {C P A N J E M G O L S T U : Type 0} (of_c : C → Check) (of_p : P → Prime) (of_a : A → AddTerm) (of_n : N → AndNeg) (of_j : J → Conj) (of_e : E → Expr) (of_m : M → MulSigned) (of_g : G → Neg) (of_o : O → OrConj) (of_l : L → Plus) (of_s : S → Signed) (of_t : T → Term) (of_u : U → Test)
      → ((e : E) → IsTyped (columns_in scope) (typed scope (of_e e))) → (y : Prime-F C P A N J E M G O L S T U) → IsGoodBracket (map-Prime C P A N J E M G O L S T U Check Prime AddTerm AndNeg Conj Expr MulSigned Neg OrConj Plus Signed Term Test of_c of_p of_a of_n of_j of_e of_m of_g of_o of_l of_s of_t of_u y)
  held of_c of_p of_a of_n of_j of_e of_m of_g of_o of_l of_s of_t of_u all (Prime-F.Number n) = tt
  held of_c of_p of_a of_n of_j of_e of_m of_g of_o of_l of_s of_t of_u all (Prime-F.Text t) = tt
  held of_c of_p of_a of_n of_j of_e of_m of_g of_o of_l of_s of_t of_u all (Prime-F.True at) = tt
  held of_c of_p of_a of_n of_j of_e of_m of_g of_o of_l of_s of_t of_u all (Prime-F.False at) = tt
  held of_c of_p of_a of_n of_j of_e of_m of_g of_o of_l of_s of_t of_u all (Prime-F.Null at) = tt
  held of_c of_p of_a of_n of_j of_e of_m of_g of_o of_l of_s of_t of_u all (Prime-F.Column c) = tt
  held of_c of_p of_a of_n of_j of_e of_m of_g of_o of_l of_s of_t of_u all (Prime-F.Bracket e) = all e

  pub all_typed : (e : Expr) → IsTyped (columns_in scope) (typed scope e)
  all_typed = ind-Expr IsGoodCheck IsGoodPrime (λ (a : AddTerm). Unit {0}) (λ (a : AndNeg). Unit {0})
      (λ (c : Conj). IsTyped (columns_in scope) (typed_conj scope c)) (λ (e : Expr). IsTyped (columns_in scope) (typed scope e)) (λ (m : MulSigned). Unit {0})
      (λ (n : Neg). IsTyped (columns_in scope) (typed_neg scope n)) (λ (o : OrConj). Unit {0}) (λ (p : Plus). IsTyped (columns_in scope) (typed_plus scope p)) (λ (s : Signed). IsTyped (columns_in scope) (typed_signed scope s))
      (λ (t : Term). IsTyped (columns_in scope) (typed_term scope t)) (λ (t : Test). IsTyped (columns_in scope) (typed_test scope t))
      (λ x y same. of_check x)
      (λ x y same. of_prime x (subst IsGoodBracket same (held (λ e. e.0) (λ e. e.0) (λ e. e.0) (λ e. e.0) (λ e. e.0) (λ e. e.0) (λ e. e.0) (λ e. e.0) (λ e. e.0) (λ e. e.0) (λ e. e.0) (λ e. e.0) (λ e. e.0) (λ e. e.1) y)))
      (λ x y same. tt)
      (λ x y same. tt)
      (λ x y same. by (typed_conj scope (roll-Conj x)) (typing.joined_by is.All (typed_neg scope x.first) (map (typed_and_neg scope) x.more)) (follow.conj scope x.first x.more)
      (of_all (columns_in scope) (typed_neg scope x.first) (map (typed_and_neg scope) x.more) (subst (λ z. IsTyped (columns_in scope) (typed_neg scope z.first)) same y.first.1)))
      (λ x y same. by (typed scope (roll-Expr x)) (typing.joined_by is.Any (typed_conj scope x.first) (map (typed_or_conj scope) x.more)) (follow.expr scope x.first x.more)
      (of_any (columns_in scope) (typed_conj scope x.first) (map (typed_or_conj scope) x.more) (subst (λ z. IsTyped (columns_in scope) (typed_conj scope z.first)) same y.first.1)))
      (λ x y same. tt)
      (λ x y same. by (typed_neg scope (roll-Neg x)) (behind_all typing.not_of (typed_test scope x.test) x.nots) (follow.neg scope x.nots x.test)
      (of_nots (columns_in scope) (typed_test scope x.test) x.nots (subst (λ z. IsTyped (columns_in scope) (typed_test scope z.test)) same y.test.1)))
      (λ x y same. tt)
      (λ x y same. by (typed_plus scope (roll-Plus x)) (typing.chained (typed_term scope x.first) (map (typed_add_term scope) x.more)) (follow.plus scope x.first x.more)
      (of_chain (columns_in scope) (typed_term scope x.first) (map (typed_add_term scope) x.more) (subst (λ z. IsTyped (columns_in scope) (typed_term scope z.first)) same y.first.1)))
      (λ x y same. by (typed_signed scope (roll-Signed x)) (behind_all typing.negated (typed_prime scope x.prime) x.minuses) (follow.signed scope x.minuses x.prime)
      (of_minuses (columns_in scope) (typed_prime scope x.prime) x.minuses (subst (λ z. IsTyped (columns_in scope) (typed_prime scope z.prime)) same y.prime.1)))
      (λ x y same. by (typed_term scope (roll-Term x)) (typing.chained (typed_signed scope x.first) (map (typed_mul_signed scope) x.more)) (follow.term scope x.first x.more)
      (of_chain (columns_in scope) (typed_signed scope x.first) (map (typed_mul_signed scope) x.more) (subst (λ z. IsTyped (columns_in scope) (typed_signed scope z.first)) same y.first.1)))
      (λ x y same. by (typed_test scope (roll-Test x)) (typed_check scope x.check (typed_plus scope x.left)) (follow.test scope x.left x.check)
      (subst (λ z. IsGoodCheck z.check) same y.check.1 (typed_plus scope x.left) (subst (λ z. IsTyped (columns_in scope) (typed_plus scope z.left)) same y.left.1)))
