use Rattle.std.proofs.Common.{◌≡◌, ◌∙◌, List, ap, sym, length, map, eqb-true}
use Rattle.std.proofs.lemmas.List.{length-map}
use Rattle.std.specs.List.{range_with_len}
use Rattle.qd_base.specs.Rows.{Row}
use Rattle.qd_meaning.specs.Grouped.{key_of}
use Rattle.qd_rows.specs.Sets.{rows_in}
use Rattle.qd_order.specs.Cuts.{cut_places}
use Rattle.qd_order.specs.Orders.{arranged, before}
use Rattle.qd_order.specs.Seen.{seen}
use Rattle.qd_order.specs.declared.columns.KeyColumn.{KeyColumn}
use Rattle.qd_order.proofs.Positions.{first_within, given_within, plan_first, plan_given}
use Rattle.qd_order.proofs.Reading.{length_rows}
use Rattle.qd_order.proofs.ordering.order_of_set.Goals as goal

pub returns-then-is_empty : goal.returns-then-is_empty
returns-then-is_empty g c =
    let rows : List Row = map (key_of c.args.exprs.now) (rows_in c.args.rows.now) in
    let count : c.len.result ≡ length rows = c.len.ensures.count ∙ sym (length_rows c.args.rows.now) ∙ sym (length-map (rows_in c.args.rows.now) (key_of c.args.exprs.now)) in
    record {
      rows = plan_first c.args.plan.now rows c.len.result c.of_first.result (eqb-true (length c.args.plan.now.order) 0 (sym c.if-is_empty.ensures.empty)) count c.of_first.ensures.places;
      within = first_within c.args.plan.now.limit c.len.result (length c.args.rows.now.places) c.of_first.result c.len.ensures.count c.of_first.ensures.places;
    }

pub returns : goal.returns
returns g c =
    let rows : List Row = map (key_of c.args.exprs.now) (rows_in c.args.rows.now) in
    let columns : List KeyColumn = c.in_ok-columns.columns.items in
    let count : c.len-2.result ≡ length rows = c.len-2.ensures.count ∙ sym (length_rows c.args.rows.now) ∙ sym (length-map (rows_in c.args.rows.now) (key_of c.args.exprs.now)) in
    let is : c.listed.result ≡ cut_places c.args.plan.now.limit (arranged (before (map seen columns)) (range_with_len 0 c.len-2.result)) =
    c.listed.ensures.places ∙ c.in_ok-places.ensures.places ∙ ap (λ (l : List KeyColumn). cut_places c.args.plan.now.limit (arranged (before (map seen l)) (range_with_len 0 c.len-2.result))) c.as_slice.ensures.value in
    record {
      rows = plan_given c.args.plan.now rows (map seen columns) c.len-2.result c.listed.result c.in_ok-columns.ensures.columns count is;
      within = given_within c.args.plan.now.limit (map seen columns) c.len-2.result (length c.args.rows.now.places) c.listed.result c.len-2.ensures.count is;
    }
