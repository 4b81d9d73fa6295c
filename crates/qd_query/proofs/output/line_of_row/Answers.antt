use Rattle.std.proofs.Common.{arith}
use Rattle.qd_print.specs.Printed.{csv_cell}
use Rattle.qd_print.proofs.LengthLemmas.{line_total}
use Rattle.qd_meaning.specs.Answer.{output_row}
use Rattle.qd_value.specs.Scalars.{cell_of}
use Rattle.qd_query.proofs.Lines.{line_more, output_width}
use Rattle.qd_query.proofs.output.line_of_row.Goals as goal

pub loop-at-preserved : goal.loop-at-preserved
loop-at-preserved c =
    let row = output_row c.args.plan.now.picks c.args.plan.now.out c.args.row.now in
    let width = output_width c.args.plan.now.picks c.args.plan.now.out c.args.row.now in
    line_more row c.loop-at.at c.loop-at.len c.value_len.result c.saturating_add.result c.saturating_add-len.result (cell_of c.output_of_row-value.result) (omega (arith, width, c.output_width-at-end.ensures.width, c.loop-at-test.true)) c.output_of_row-value.ensures.value
    c.loop-at.invariant c.value_len.ensures.value c.saturating_add.ensures c.saturating_add-len.ensures

pub returns : goal.returns
returns c =
    let row = output_row c.args.plan.now.picks c.args.plan.now.out c.args.row.now in
    let width = output_width c.args.plan.now.picks c.args.plan.now.out c.args.row.now in
    line_total csv_cell row c.loop-at.at c.loop-at.len c.max.result (omega (arith, width, c.output_width-at-end.ensures.width, c.loop-at-test.false)) c.loop-at.invariant c.max.ensures
