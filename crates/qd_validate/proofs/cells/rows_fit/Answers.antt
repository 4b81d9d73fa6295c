use Rattle.qd_base.specs.Lawful.{IsRowOf}
use Rattle.qd_base.proofs.Taken.{All-taken, All-whole, holds}
use Rattle.qd_validate.proofs.cells.rows_fit.Goals as goal

pub loop-row-preserved : goal.loop-row-preserved
loop-row-preserved c = All-taken (IsRowOf c.args.schema.now) c.args.rows.now c.loop-row.row-index c.row-item.result c.loop-row-test.true c.row-item.is c.loop-row.invariant (c.is_row_of.ensures.row.0 c.if-not-is_row_of.false)

pub returns : goal.returns
returns c = record { rows = holds (All-whole (IsRowOf c.args.schema.now) c.args.rows.now c.loop-row.row-index c.loop-row-test.false c.loop-row.invariant) }
