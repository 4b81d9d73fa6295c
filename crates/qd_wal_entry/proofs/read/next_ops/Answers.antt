use Rattle.std.proofs.Common.{[]}
use Rattle.std.proofs.lemmas.Result.{err_from_is_err_and}
use Rattle.qd_fields.specs.Layout.{items, each}
use Rattle.qd_fields.proofs.Steps.{items_more, items_fail, items_done}
use Rattle.qd_wal_entry.specs.Layout.{op_at}
use Rattle.qd_wal_entry.proofs.read.next_ops.Goals as goal

pub returns-in_err-op : goal.returns-in_err-op
returns-in_err-op c =
    let p = err_from_is_err_and c.from_residual.result c.from_residual.ensures.1 in
    record { read = rw (p.1, p.2) (items_fail (each op_at) c.in_err-op.field-0.0 c.args.count c.loop.counter c.loop.ops c.loop.reader (items (each op_at) c.args.count [] c.args.reader.now) c.loop-test.true c.in_err-op.ensures.read c.loop.invariant) }

pub loop-preserved : goal.loop-preserved
loop-preserved c = rw c.in_ok-push.ensures.ok (items_more (each op_at) c.args.count c.loop.counter c.loop.ops c.loop.reader c.in_ok-op.op c.next_op.new.reader (items (each op_at) c.args.count [] c.args.reader.now) c.loop-test.true c.in_ok-op.ensures.read c.loop.invariant)

pub returns : goal.returns
returns c = record { read = items_done (each op_at) c.args.count c.loop.counter c.loop.ops c.loop.reader (items (each op_at) c.args.count [] c.args.reader.now) c.loop-test.false c.loop.invariant }
