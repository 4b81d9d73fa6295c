use Rattle.std.proofs.Common.{[]}
use Rattle.std.proofs.lemmas.Result.{err_from_is_err_and}
use Rattle.qd_fields.specs.Layout.{items, each}
use Rattle.qd_fields.proofs.Steps.{items_more, items_fail, items_done}
use Rattle.qd_wal_entry.specs.Layout.{cell_at, row_at}
use Rattle.qd_wal_entry.proofs.read.next_row.Goals as goal

pub returns-in_err-cell : goal.returns-in_err-cell
unfolding row_at
returns-in_err-cell c =
    let p = err_from_is_err_and c.from_residual-in_err-cell.result c.from_residual-in_err-cell.ensures.1 in
    record { read = rw (p.1, p.2) (items_fail (each cell_at) c.in_err-cell.field-0.0 c.args.columns c.loop.counter c.loop.row c.loop.reader (items (each cell_at) c.args.columns [] c.args.reader.now) c.loop-test.true c.in_err-cell.ensures.read c.loop.invariant) }

pub loop-preserved : goal.loop-preserved
unfolding row_at
loop-preserved c = rw c.in_ok-push.ensures.ok (items_more (each cell_at) c.args.columns c.loop.counter c.loop.row c.loop.reader c.in_ok-cell.cell c.next_cell.new.reader (items (each cell_at) c.args.columns [] c.args.reader.now) c.loop-test.true c.in_ok-cell.ensures.read c.loop.invariant)

pub returns : goal.returns
unfolding row_at
returns c = record { read = items_done (each cell_at) c.args.columns c.loop.counter c.loop.row c.loop.reader (items (each cell_at) c.args.columns [] c.args.reader.now) c.loop-test.false c.loop.invariant }
