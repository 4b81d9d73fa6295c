-- Positions among which the first ones are.
use Rattle.std.proofs.Common.{◌≡◌, ◌∙◌, ◌++◌, ◌∷◌, [], ℕ, ◌-◌, ◌≤◌, ◌<◌, Bool, false, Option, Some, None, List, ap, sym, arith, length, subst, take, get_or}
use Rattle.std.specs.Cmp.{IsStrictWeakOrder}
use Rattle.std.proofs.lemmas.List.{length-take}
use Rattle.qd_order.specs.Orders.{arranged}
use Rattle.qd_order.specs.Selected.{goes_before, HasFirst, KeepsFirst}
use Rattle.qd_order.proofs.Rises.{ahead_more, cut_ahead, cut_same, first_more, first_skipped, length-arranged}

module _ (lt : ℕ → ℕ → Bool) (o : IsStrictWeakOrder lt) (most : ℕ) where
  -- a position that doesn't go before the last one isn't among the first ones
  pub passed_over : (place : ℕ) (ps : List ℕ) (last : Option ℕ) → HasFirst lt most ps last → goes_before lt place last ≡ false → KeepsFirst lt most place ps ps
  passed_over place ps None bound e = cc
  passed_over place ps (Some last) bound e = λ others same. first_skipped lt o most last place ps others same bound e

  -- what holds of the last one holds with one position more
  pub bound_more : (place : ℕ) (ps more : List ℕ) (last : Option ℕ) → HasFirst lt most ps last → more ≡ ps ++ place ∷ [] → HasFirst lt most more last
  bound_more place ps more None bound is = tt
  bound_more place ps more (Some last) bound is = let low = ahead_more lt o most last place ps bound in subst (λ (l : List ℕ). HasFirst lt most l (Some last)) (sym is) low

  pub keeps_more : (place : ℕ) (ps more new : List ℕ) → more ≡ ps ++ place ∷ [] → take most (arranged lt new) ≡ take most (arranged lt more) → KeepsFirst lt most place ps new
  keeps_more place ps more new is same = λ others first. same ∙ ap (λ l. take most (arranged lt l)) is ∙ first_more lt o most place ps others first

  -- the first ones alone
  pub cut_keeps : (ps sorted new : List ℕ) → sorted ≡ arranged lt ps → new ≡ take most sorted → take most (arranged lt new) ≡ take most (arranged lt ps)
  cut_keeps ps sorted new in_order cut = ap (λ l. take most (arranged lt l)) (cut ∙ ap (take most) in_order) ∙ cut_same lt o most ps

  pub cut_bound : (ps sorted new : List ℕ) (last : ℕ) → 0 < most → most ≤ length ps → sorted ≡ arranged lt ps → new ≡ take most sorted → last ≡ get_or new (most - 1) last → HasFirst lt most new (Some last)
  cut_bound ps sorted new last some many in_order cut is =
      let whole : new ≡ take most (arranged lt ps) = cut ∙ ap (take most) in_order in
      let at : last ≡ get_or (take most (arranged lt ps)) (most - 1) last = is ∙ ap (λ (l : List ℕ). get_or l (most - 1) last) whole in
      let low = cut_ahead lt o most ps last some (omega (arith, length-arranged lt o ps, many)) in
      subst (λ (l : List ℕ). HasFirst lt most l (Some last)) (sym whole) (subst (λ (w : ℕ). HasFirst lt most (take most (arranged lt ps)) (Some w)) (sym at) low)

  pub cut_size : (ps sorted new : List ℕ) → most ≤ length ps → sorted ≡ arranged lt ps → new ≡ take most sorted → length new ≡ most
  cut_size ps sorted new many in_order cut = let size = length-arranged lt o ps in omega (arith, ap length cut, length-take most sorted, ap length in_order)
