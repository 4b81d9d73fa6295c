use Rattle.std.proofs.Common.{◌≡◌, ℕ, ◌∙◌, ◌++◌, ◌∷◌, [], ◌≤◌, ap, sym, map, take, get_or, arith, length}
use Rattle.std.proofs.lemmas.List.{map_more, get_or_default, take_all}
use Rattle.qd_column.proofs.gather.gathered.Goals as goal

pub loop-place-preserved : goal.loop-place-preserved
loop-place-preserved g c = λ d.
    let i = c.loop-place.place-index in
    let f : ℕ → g.row.T.Denot = λ i. get_or c.args.items.now i d in
    let low = c.loop-place-test.true in
    let item : c.index-items-place.result ≡ f (get_or c.args.places.now i 0) = c.index-items-place.is ∙ get_or_default c.args.items.now (get_or c.args.places.now i 0) c.index-items-place.result d (c.requires i 0 low) in
    let pushed : c.push.new.self.items ≡ c.loop-place.chosen.items ++ c.index-items-place.result ∷ [] = c.in_ok-push.ensures.items in
    pushed ∙ ap (λ l. l ++ c.index-items-place.result ∷ []) (c.loop-place.invariant d) ∙ ap (λ x. map f (take i c.args.places.now) ++ x ∷ []) item ∙ sym (map_more f c.args.places.now i 0 low)

pub returns : goal.returns
returns g c = record { items = λ d. c.loop-place.invariant d ∙ ap (map (λ i. get_or c.args.items.now i d)) (take_all c.loop-place.place-index c.args.places.now c.loop-place-test.false) }
