use Rattle.std.proofs.Common.{◌≡◌, ◌∙◌, ◌++◌, ◌∷◌, [], ap, sym, arith, map}
use Rattle.std.specs.List.{range_with_len}
use Rattle.qd_order.specs.Orders.{arranged, before}
use Rattle.qd_order.specs.Seen.{seen}
use Rattle.qd_order.proofs.Positions.{range_more}
use Rattle.qd_order.proofs.sorting.all_in_order.Goals as goal

pub loop-place-preserved : goal.loop-place-preserved
loop-place-preserved c = c.in_ok-push.ensures.items ∙ ap (λ l. l ++ c.loop-place.place ∷ []) c.loop-place.invariant ∙ sym (range_more c.loop-place.place)

pub returns : goal.returns
returns c =
    let all : c.loop-place.place ≡ c.args.count = omega arith in
    record { places = c.in_ok-sort_places.ensures.ok ∙ ap (arranged (before (map seen c.args.columns.now))) (c.loop-place.invariant ∙ ap (range_with_len 0) all) }
