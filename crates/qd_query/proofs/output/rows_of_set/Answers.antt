use Rattle.std.proofs.Common.{List, [], arith, get_or, length, map}
use Rattle.std.proofs.lemmas.List.{length-map}
use Rattle.qd_base.specs.Rows.{Row}
use Rattle.qd_meaning.specs.Answer.{output_row}
use Rattle.qd_meaning.specs.Grouped.{key_of}
use Rattle.qd_order.specs.Cuts.{shown_rows}
use Rattle.qd_rows.specs.Sets.{row_of_place, rows_in}
use Rattle.qd_query.proofs.Lines.{all_taken, rows_more, set_row, within_at}
use Rattle.qd_query.proofs.output.rows_of_set.Goals as goal

pub places-place-requires : goal.places-place-requires
places-place-requires g c = within_at (length c.args.rows.now.places) c.args.places.now c.requires c.loop-k.k c.get.result c.get.ensures.place

pub loop-k-preserved : goal.loop-k-preserved
loop-k-preserved g c =
    let p = c.args.plan.now in
    let es = c.args.exprs.now in
    let s = c.args.rows.now in
    let outs : List Row = shown_rows p (map (key_of es) (rows_in s)) in
    rows_more outs c.args.places.now c.loop-k.k c.get.result c.loop-k.list c.push.new.self c.in_ok-output_of.field-0 (output_row p.picks p.out (key_of es (row_of_place s c.places-place.result))) c.get.ensures.place c.in_ok-output_of.ensures
    (set_row p es s c.get.result c.places-place.result c.places-place.ensures.places) c.loop-k.invariant c.in_ok-push.ensures.ok

pub returns : goal.returns
returns g c =
    let outs : List Row = shown_rows c.args.plan.now (map (key_of c.args.exprs.now) (rows_in c.args.rows.now)) in
    let rows : List Row = map (λ i. get_or outs i []) c.args.places.now in
    record { rows = all_taken rows c.loop-k.list c.loop-k.k (omega (arith, length-map c.args.places.now (λ i. get_or outs i []))) c.loop-k.invariant }
