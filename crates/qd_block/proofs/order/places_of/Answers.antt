use Rattle.std.proofs.Common.{◌≡◌, ◌∙◌, ◌++◌, ◌∷◌, [], ℕ, List, ap, sym, get_or, arith}
use Rattle.std.proofs.lemmas.List.FromFn.{map-range_with_len_more}
use Rattle.qd_block.specs.declared.order.Placed.{Placed}
use Rattle.qd_block.proofs.order.places_of.Goals as goal

pub loop-place-preserved : goal.loop-place-preserved
loop-place-preserved c =
    let make : ℕ → Placed = λ i. record { time = get_or c.args.times.now i 0; place = i } in
    let pushed : c.push.new.self.items ≡ c.loop-place.places.items ++ make c.loop-place.place ∷ [] = c.in_ok-push.ensures.items in
    pushed ∙ ap (λ (l : List Placed). l ++ make c.loop-place.place ∷ []) c.loop-place.invariant ∙ sym (map-range_with_len_more make 0 c.loop-place.place c.loop-place.place (omega arith))
