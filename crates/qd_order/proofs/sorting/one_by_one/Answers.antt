use Rattle.std.proofs.Common.{◌≡◌, ◌∙◌, ℕ, List, ap, sym, arith, map}
use Rattle.std.specs.List.{range_with_len}
use Rattle.qd_order.specs.Orders.{arranged, before, placed_by}
use Rattle.qd_order.specs.Seen.{seen}
use Rattle.qd_order.proofs.Positions.{arranged_next}
use Rattle.qd_order.proofs.sorting.one_by_one.Goals as goal

pub loop-place-preserved : goal.loop-place-preserved
loop-place-preserved c =
    let ks = map seen c.args.columns.now in
    c.in_ok-places.ensures
    ∙ ap (λ (l : List ℕ). placed_by (before ks) l c.loop-place.place) (c.as_slice.ensures.value ∙ c.loop-place.invariant)
    ∙ sym (arranged_next (before ks) c.loop-place.place)

pub returns : goal.returns
returns c =
    let all : c.loop-place.place ≡ c.args.count = omega arith in
    record { places = c.loop-place.invariant ∙ ap (λ n. arranged (before (map seen c.args.columns.now)) (range_with_len 0 n)) all }
