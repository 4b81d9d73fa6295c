use Rattle.std.proofs.Common.{[]}
use Rattle.std.proofs.lemmas.Result.{err_from_is_err_and}
use Rattle.qd_fields.specs.Layout.{items, each}
use Rattle.qd_fields.proofs.Steps.{items_more, items_fail, items_done}
use Rattle.qd_wal_entry.specs.Layout.{row_at, rows_at}
use Rattle.qd_wal_entry.proofs.read.next_rows.Goals as goal

pub returns-in_err-row : goal.returns-in_err-row
unfolding rows_at
returns-in_err-row c =
    let p = err_from_is_err_and c.from_residual-in_err-row.result c.from_residual-in_err-row.ensures.1 in
    record { read = rw (p.1, p.2) (items_fail (each (row_at c.args.columns)) c.in_err-row.field-0.0 c.args.count c.loop.counter c.loop.rows c.loop.reader (items (each (row_at c.args.columns)) c.args.count [] c.args.reader.now) c.loop-test.true c.in_err-row.ensures.read c.loop.invariant) }

pub loop-preserved : goal.loop-preserved
unfolding rows_at
loop-preserved c = rw c.in_ok-push.ensures.ok (items_more (each (row_at c.args.columns)) c.args.count c.loop.counter c.loop.rows c.loop.reader c.in_ok-row.row c.next_row.new.reader (items (each (row_at c.args.columns)) c.args.count [] c.args.reader.now) c.loop-test.true c.in_ok-row.ensures.read c.loop.invariant)

pub returns : goal.returns
unfolding rows_at
returns c = record { read = items_done (each (row_at c.args.columns)) c.args.count c.loop.counter c.loop.rows c.loop.reader (items (each (row_at c.args.columns)) c.args.count [] c.args.reader.now) c.loop-test.false c.loop.invariant }
