use Rattle.std.proofs.Common.{arith}
use Rattle.qd_meaning.specs.Answer.{output_row}
use Rattle.qd_meaning.specs.Grouped.{key_of}
use Rattle.qd_rows.specs.Sets.{row_of_place}
use Rattle.qd_value.specs.Scalars.{cell_of}
use Rattle.qd_query.proofs.Lines.{all_taken, output_width, value_more}
use Rattle.qd_query.proofs.output.output_of.Goals as goal

pub loop-at-preserved : goal.loop-at-preserved
loop-at-preserved g c =
    let row = output_row c.args.plan.now.picks c.args.plan.now.out (key_of c.args.exprs.now (row_of_place c.args.rows.now c.args.place)) in
    let width = output_width c.args.plan.now.picks c.args.plan.now.out (key_of c.args.exprs.now (row_of_place c.args.rows.now c.args.place)) in
    value_more row c.loop-at.made c.push.new.self c.loop-at.at c.in_ok-to_cell.field-0 (cell_of c.output_of_place-value.result) (omega (arith, width, c.output_width-width.ensures.width, c.loop-at-test.true)) c.in_ok-to_cell.ensures.same c.output_of_place-value.ensures.value c.loop-at.invariant c.in_ok-push.ensures.ok

pub returns : goal.returns
returns g c =
    let row = output_row c.args.plan.now.picks c.args.plan.now.out (key_of c.args.exprs.now (row_of_place c.args.rows.now c.args.place)) in
    let width = output_width c.args.plan.now.picks c.args.plan.now.out (key_of c.args.exprs.now (row_of_place c.args.rows.now c.args.place)) in
    all_taken row c.loop-at.made c.loop-at.at (omega (arith, width, c.output_width-width.ensures.width, c.loop-at-test.false)) c.loop-at.invariant
