use Rattle.std.proofs.Common.{◌≡◌, ℕ, List, [], ◌∷◌, ◌++◌, IfOk, IfErr, map, length, sym, ap, ◌∙◌, subst₂, arith}
use Rattle.qd_base.specs.NameIndex.{name_cmp, with_place, IsAt, IsGap, IsIndex}
use Rattle.qd_base.proofs.NameIndex.{name_added}
use Rattle.qd_base.proofs.named.NamedList.push.Goals as goal

-- the item goes to the end of the list, and its place to where its name belongs
pub invariant_of-self-2 : goal.invariant_of-self-2
invariant_of-self-2 g c =
    let old = c.self.inside.items.items in
    let order = c.self.inside.order.items in
    let place = c.find_place-place.result in
    let items : c.push.new.self.items ≡ old ++ c.args.item ∷ [] = c.in_ok-push.ensures.items ∙ ap (λ l. l ++ c.args.item ∷ []) c.in_ok-reserve.ensures.items in
    let count : c.len.result ≡ length old = omega (arith, c.len.ensures, c.in_ok-reserve.ensures.len) in
    let places : c.add_place.new.order.items ≡ with_place order place (length old) = c.in_ok-add_place.ensures.ok ∙ ap (with_place order place) count in
    let at : IfOk place (IsAt name_cmp [] (map g.T.Named.name_of old) order c.name.result.now) = rw (c.as_slice.ensures.value, c.as_slice-2.ensures.value) at c.find_place-place.ensures.found in
    let gap : IfErr place (IsGap name_cmp [] (map g.T.Named.name_of old) order c.name.result.now) = rw (c.as_slice.ensures.value, c.as_slice-2.ensures.value) at c.find_place-place.ensures.absent in
    subst₂ (λ (xs : List g.row.T.Denot) (ys : List ℕ). IsIndex name_cmp [] (map g.T.Named.name_of xs) ys) (sym items) (sym places)
    (name_added g.T.Named.name_of c.name.result.now old order c.self.invariant c.args.item place c.name.ensures.name at gap)
