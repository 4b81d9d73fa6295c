-- Texts that were met, in a dictionary.
use Rattle.std.proofs.Common.{◌≡◌, ℕ, ◌+◌, ◌<◌, true, List, [], Option, Some, None, length, get_or, slice_get, sym, ap, ◌∙◌, arith, subst, inl, inr, true≢false}
use Rattle.std.specs.Prelude.{Contains}
use Rattle.std.specs.Option.{is_some}
use Rattle.std.proofs.lemmas.Bool.{cases_eq}
use Rattle.std.proofs.lemmas.Option.{get_or_from_slice_get}
use Rattle.qd_base.specs.Dictionary.{id_for, id_in, with_text}
use Rattle.qd_base.proofs.Texts.{id_not_there, id_there, text_given, text_kept, text_stands, with_text-there}
use Rattle.qd_latest.specs.Walks.{AreFirstMet, Grows}

pub text_met : (met : List (List ℕ)) (t : List ℕ) (id : ℕ) → id_in met t ≡ Some id → Contains met t
text_met met t id e =
    let at = id_there met t id e in
    let low : id_for met t < length met = omega (arith, at.0, at.1) in
    (id_for met t, low, ap (λ (l : List (List ℕ)). get_or l (id_for met t) t) (sym (with_text-there met t low)) ∙ (text_given met t t).1)

pub text_unmet : (met : List (List ℕ)) (t : List ℕ) → id_in met t ≡ None → Contains met t → ⊥
text_unmet met t none has =
    let stands = text_stands met has.0 t has.1 in
    let low : id_for met t < length met = subst (λ (u : List ℕ). id_for met u < length met) has.2 stands in
    let high = id_not_there met t none in
    omega (arith, low, high)

pub grows_with : (met : List (List ℕ)) (t : List ℕ) → Grows met (with_text met t)
grows_with met t u has = let kept = text_kept met t u has.0 has.1 in (has.0, kept.0, kept.1 ∙ has.2)

pub first_met_more : (texts met : List (List ℕ)) (id : ℕ) (t : List ℕ) (found : Option ℕ) → AreFirstMet texts id met → slice_get texts id ≡ Some t → found ≡ id_in met t → is_some found ≡ true → AreFirstMet texts (id + 1) met
first_met_more texts met id t None first at is some = absurd (true≢false (sym some))
first_met_more texts met id t (Some n) first at is some = λ k less there. elim (cases_eq k id) [
  | inl same ↦ subst (Contains met) (sym (get_or_from_slice_get texts id t [] at) ∙ ap (λ (i : ℕ). get_or texts i []) (sym same)) (text_met met t n (sym is))
  | inr other ↦ first k (omega (arith, less, other)) there
]
