use Rattle.std.proofs.Common.{◌≡◌, ◌∙◌, List, ap, sym, refl, length, map, eqb-true}
use Rattle.std.specs.List.{range_with_len}
use Rattle.qd_order.specs.Cuts.{cut_places}
use Rattle.qd_order.specs.Orders.{arranged, before}
use Rattle.qd_order.specs.Seen.{seen}
use Rattle.qd_order.specs.declared.columns.KeyColumn.{KeyColumn}
use Rattle.qd_order.proofs.Positions.{first_within, given_within, plan_first, plan_given}
use Rattle.qd_order.proofs.ordering.order_of_rows.Goals as goal

pub returns-then-is_empty : goal.returns-then-is_empty
returns-then-is_empty c =
    record {
      rows = plan_first c.args.plan.now c.args.rows.now (length c.args.rows.now) c.of_first.result (eqb-true (length c.args.plan.now.order) 0 (sym c.if-is_empty.ensures.empty)) refl c.of_first.ensures.places;
      within = first_within c.args.plan.now.limit (length c.args.rows.now) (length c.args.rows.now) c.of_first.result refl c.of_first.ensures.places;
    }

pub returns : goal.returns
returns c =
    let columns : List KeyColumn = c.in_ok-columns.columns.items in
    let is : c.listed.result ≡ cut_places c.args.plan.now.limit (arranged (before (map seen columns)) (range_with_len 0 (length c.args.rows.now))) =
    c.listed.ensures.places ∙ c.in_ok-places.ensures.places ∙ ap (λ (l : List KeyColumn). cut_places c.args.plan.now.limit (arranged (before (map seen l)) (range_with_len 0 (length c.args.rows.now)))) c.as_slice.ensures.value in
    record {
      rows = plan_given c.args.plan.now c.args.rows.now (map seen columns) (length c.args.rows.now) c.listed.result c.in_ok-columns.ensures.columns refl is;
      within = given_within c.args.plan.now.limit (map seen columns) (length c.args.rows.now) (length c.args.rows.now) c.listed.result refl is;
    }
