use Rattle.std.proofs.Common.{arith}
use Rattle.qd_meaning.specs.Answer.{output_row}
use Rattle.qd_value.specs.Scalars.{cell_of}
use Rattle.qd_query.proofs.Lines.{all_taken, output_width, value_more}
use Rattle.qd_query.proofs.output.output_of_one.Goals as goal

pub loop-at-preserved : goal.loop-at-preserved
loop-at-preserved c =
    let row = output_row c.args.plan.now.picks c.args.plan.now.out c.args.row.now in
    let width = output_width c.args.plan.now.picks c.args.plan.now.out c.args.row.now in
    value_more row c.loop-at.made c.push.new.self c.loop-at.at c.in_ok-to_cell.field-0 (cell_of c.output_of_row-value.result) (omega (arith, width, c.output_width-width.ensures.width, c.loop-at-test.true)) c.in_ok-to_cell.ensures.same c.output_of_row-value.ensures.value c.loop-at.invariant c.in_ok-push.ensures.ok

pub returns : goal.returns
returns c =
    let row = output_row c.args.plan.now.picks c.args.plan.now.out c.args.row.now in
    let width = output_width c.args.plan.now.picks c.args.plan.now.out c.args.row.now in
    all_taken row c.loop-at.made c.loop-at.at (omega (arith, width, c.output_width-width.ensures.width, c.loop-at-test.false)) c.loop-at.invariant
