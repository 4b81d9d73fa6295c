use Rattle.std.proofs.Common.{◌≡◌, ◌∙◌, ap, sym, arith, map, take}
use Rattle.std.specs.List.{range_with_len}
use Rattle.qd_order.specs.Orders.{arranged, before}
use Rattle.qd_order.specs.Seen.{seen}
use Rattle.qd_order.proofs.Positions.{range_more}
use Rattle.qd_order.proofs.selecting.first_in_order.Goals as goal

pub loop-place-preserved : goal.loop-place-preserved
loop-place-preserved c =
    let lt = before (map seen c.args.columns.now) in
    record {
      same = c.in_ok-last.ensures.same (range_with_len 0 c.loop-place.place) c.loop-place.invariant.same ∙ ap (λ l. take c.args.most (arranged lt l)) (sym (range_more c.loop-place.place));
      bound = c.in_ok-last.ensures.bound;
    }

pub returns : goal.returns
returns c =
    let lt = before (map seen c.args.columns.now) in
    let all : c.loop-place.place ≡ c.args.count = omega arith in
    record {
      places = c.truncate.ensures.items ∙ ap (take c.args.most) c.in_ok-sort_places.ensures.ok ∙ c.loop-place.invariant.same ∙ ap (λ n. take c.args.most (arranged lt (range_with_len 0 n))) all;
    }
