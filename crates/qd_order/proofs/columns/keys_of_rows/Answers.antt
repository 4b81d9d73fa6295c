use Rattle.std.proofs.Common.{◌∙◌, [], ap, sym, arith, map}
use Rattle.std.proofs.lemmas.List.{get_or_read, take_all}
use Rattle.qd_expr.proofs.ListLemmas.{map-map}
use Rattle.qd_base.specs.declared.cell.Cell.{Cell}
use Rattle.qd_base.specs.Rows.{Row, cell_at}
use Rattle.qd_meaning.specs.Answer.{output_row}
use Rattle.qd_order.proofs.Reading.{keys_more}
use Rattle.qd_order.proofs.columns.keys_of_rows.Goals as goal

pub loop-row-preserved : goal.loop-row-preserved
loop-row-preserved c =
    let f : Row → Cell = λ r. cell_at (output_row c.args.plan.now.picks c.args.plan.now.out r) c.args.at in
    keys_more f c.args.rows.now c.loop-row.row-index c.loop-row.keys.items c.push.new.self.items c.of.result c.row-item.result c.loop-row-test.true
    (get_or_read c.args.rows.now c.loop-row.row-index c.row-item.result c.loop-row-test.true c.row-item.is []) c.loop-row.invariant (c.of.ensures.same ∙ c.output_of_row.ensures.value) c.in_ok-push.ensures.items

pub returns : goal.returns
returns c =
    let out : Row → Row = output_row c.args.plan.now.picks c.args.plan.now.out in
    record { keys = c.loop-row.invariant ∙ ap (map (λ r. cell_at (out r) c.args.at)) (take_all c.loop-row.row-index c.args.rows.now (omega arith)) ∙ sym (map-map (λ r. cell_at r c.args.at) out c.args.rows.now) }
