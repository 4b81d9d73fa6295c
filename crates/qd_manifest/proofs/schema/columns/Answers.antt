use Rattle.std.proofs.Common.{[]}
use Rattle.std.proofs.lemmas.Result.{err_from_is_err_and}
use Rattle.qd_fields.specs.Layout.{items}
use Rattle.qd_manifest.specs.Layout.{column_from}
use Rattle.qd_fields.proofs.Steps.{items_more, items_fail, items_done}
use Rattle.qd_manifest.proofs.schema.columns.Goals as goal

pub returns-in_err-col : goal.returns-in_err-col
returns-in_err-col c =
    let p = err_from_is_err_and c.from_residual.result c.from_residual.ensures.1 in
    record { read = rw (p.1, p.2) (items_fail column_from c.in_err-col.field-0.0 c.args.count c.loop.counter c.loop.cols c.loop.rest.now (items column_from c.args.count [] c.args.bytes.now) c.loop-test.true c.in_err-col.ensures.read c.loop.invariant) }

pub loop-preserved : goal.loop-preserved
loop-preserved c = rw c.in_ok-push.ensures.ok (items_more column_from c.args.count c.loop.counter c.loop.cols c.loop.rest.now c.in_ok-col.col c.in_ok-col.after.now (items column_from c.args.count [] c.args.bytes.now) c.loop-test.true c.in_ok-col.ensures.read c.loop.invariant)

pub returns : goal.returns
returns c = record { read = items_done column_from c.args.count c.loop.counter c.loop.cols c.loop.rest.now (items column_from c.args.count [] c.args.bytes.now) c.loop-test.false c.loop.invariant }
