use Rattle.std.proofs.Common.{[]}
use Rattle.std.proofs.lemmas.Result.{err_from_is_err_and}
use Rattle.qd_fields.specs.Layout.{items}
use Rattle.qd_manifest.specs.Layout.{table_from}
use Rattle.qd_fields.proofs.Steps.{items_more, items_fail, items_done}
use Rattle.qd_manifest.proofs.read.tables.Goals as goal

pub returns-in_err-table : goal.returns-in_err-table
returns-in_err-table c =
    let p = err_from_is_err_and c.from_residual.result c.from_residual.ensures.1 in
    record { read = rw (p.1, p.2) (items_fail (table_from c.args.most c.args.next) c.in_err-table.field-0.0 c.args.count c.loop.counter c.loop.tables c.loop.rest.now (items (table_from c.args.most c.args.next) c.args.count [] c.args.bytes.now) c.loop-test.true c.in_err-table.ensures.read c.loop.invariant.read) }

pub loop-preserved : goal.loop-preserved
loop-preserved c = rw c.in_ok-push.ensures.ok (record { read = items_more (table_from c.args.most c.args.next) c.args.count c.loop.counter c.loop.tables c.loop.rest.now c.in_ok-table.table c.in_ok-table.after.now (items (table_from c.args.most c.args.next) c.args.count [] c.args.bytes.now) c.loop-test.true c.in_ok-table.ensures.read c.loop.invariant.read; named = c.in_ok-table.ensures.named })

pub returns : goal.returns
returns c = record { read = items_done (table_from c.args.most c.args.next) c.args.count c.loop.counter c.loop.tables c.loop.rest.now (items (table_from c.args.most c.args.next) c.args.count [] c.args.bytes.now) c.loop-test.false c.loop.invariant.read }
