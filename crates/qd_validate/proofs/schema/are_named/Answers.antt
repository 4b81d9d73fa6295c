use Rattle.qd_base.specs.declared.schema.Col.{Col}
use Rattle.qd_base.specs.Names.{IsColumnName}
use Rattle.qd_base.proofs.Taken.{All-taken, All-whole, holds}
use Rattle.qd_validate.proofs.schema.are_named.Goals as goal

pub loop-col-preserved : goal.loop-col-preserved
loop-col-preserved c = All-taken (λ (x : Col). IsColumnName x.name) c.args.cols.now c.loop-col.col-index c.col-item.result c.loop-col-test.true c.col-item.is c.loop-col.invariant (rw (← c.bytes.ensures.same) (c.column_name_ok.ensures.ok.0 c.if-not-column_name_ok.false))

pub returns : goal.returns
returns c = record { named = holds (All-whole (λ (x : Col). IsColumnName x.name) c.args.cols.now c.loop-col.col-index c.loop-col-test.false c.loop-col.invariant) }
