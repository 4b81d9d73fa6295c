use Rattle.std.proofs.Common.{List, [], arith, get_or, length, map}
use Rattle.std.proofs.lemmas.List.{length-map}
use Rattle.qd_base.specs.Rows.{Row}
use Rattle.qd_meaning.specs.Answer.{output_row}
use Rattle.qd_order.specs.Cuts.{shown_rows}
use Rattle.qd_query.proofs.Lines.{all_taken, list_row, rows_more, within_at}
use Rattle.qd_query.proofs.output.rows_of_rows.Goals as goal

pub bounds-rows-get : goal.bounds-rows-get
bounds-rows-get c = within_at (length c.args.rows.now) c.args.places.now c.requires c.loop-k.k c.get.result c.get.ensures.place

pub loop-k-preserved : goal.loop-k-preserved
loop-k-preserved c =
    let p = c.args.plan.now in
    let rows = c.args.rows.now in
    let outs : List Row = shown_rows p rows in
    rows_more outs c.args.places.now c.loop-k.k c.get.result c.loop-k.list c.push.new.self c.in_ok-output_of_one.field-0 (output_row p.picks p.out c.index-rows-get.result) c.get.ensures.place c.in_ok-output_of_one.ensures
    (list_row p rows c.get.result c.index-rows-get.result (within_at (length rows) c.args.places.now c.requires c.loop-k.k c.get.result c.get.ensures.place) c.index-rows-get.is)
    c.loop-k.invariant c.in_ok-push.ensures.ok

pub returns : goal.returns
returns c =
    let outs : List Row = shown_rows c.args.plan.now c.args.rows.now in
    let rows : List Row = map (λ i. get_or outs i []) c.args.places.now in
    record { rows = all_taken rows c.loop-k.list c.loop-k.k (omega (arith, length-map c.args.places.now (λ i. get_or outs i []))) c.loop-k.invariant }
