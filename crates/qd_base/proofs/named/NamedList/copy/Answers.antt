use Rattle.std.proofs.Common.{◌≡◌, ℕ, List, [], map, sym, ◌∙◌, subst₂, arith}
use Rattle.std.proofs.lemmas.Grind.{common_steps}
use Rattle.qd_base.specs.NameIndex.{name_cmp, IsIndex}
use Rattle.qd_base.proofs.named.NamedList.copy.Goals as goal

-- the same names in the same order
pub invariant_of-result : goal.invariant_of-result
invariant_of-result g c =
    let items : c.loop-item.items.items ≡ c.self.inside.items.items = grind (arith, common_steps) in
    let order : c.in_ok-order.order.items ≡ c.self.inside.order.items = c.in_ok-order.ensures.items ∙ c.as_slice.ensures.value in
    subst₂ (λ (xs : List g.row.T.Denot) (ys : List ℕ). IsIndex name_cmp [] (map g.T.Named.name_of xs) ys) (sym items) (sym order) c.self.invariant
