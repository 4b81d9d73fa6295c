use Rattle.std.proofs.Common.{length, arith}
use Rattle.qd_validate.proofs.SumLemmas.{left_taken, left_whole}
use Rattle.qd_validate.proofs.lawful.left_after_rows.Goals as goal

pub loop-row-preserved : goal.loop-row-preserved
loop-row-preserved c =
    let h = c.in_ok-left.ensures in
    left_taken length c.args.rows.now c.loop-row.row-index c.loop-row.left c.args.left c.in_ok-left.left c.row-item.result c.loop-row-test.true c.row-item.is c.loop-row.invariant (omega arith)

pub returns-clause-left : goal.returns-clause-left
returns-clause-left c = left_whole length c.args.rows.now c.loop-row.row-index c.loop-row.left c.args.left c.loop-row-test.false c.loop-row.invariant
