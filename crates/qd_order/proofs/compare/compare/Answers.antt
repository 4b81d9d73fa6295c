use Rattle.std.proofs.Common.{arith, sym}
use Rattle.qd_order.specs.Seen.{seen}
use Rattle.qd_order.proofs.Standing.{compared_end, compared_here, compared_next}
use Rattle.qd_order.proofs.compare.compare.Goals as goal

pub loop-column-preserved : goal.loop-column-preserved
loop-column-preserved c =
    compared_next seen c.args.columns.now c.loop-column.column-index c.args.i c.args.j c.column-item.result c.compare_in-found.result c.loop-column-test.true c.column-item.is c.compare_in-found.ensures (sym c.if-is_ne.ensures) c.loop-column.invariant

pub returns-then-is_ne : goal.returns-then-is_ne
returns-then-is_ne c =
    record {
      order = compared_here seen c.args.columns.now c.loop-column.column-index c.args.i c.args.j c.column-item.result c.compare_in-found.result c.loop-column-test.true c.column-item.is c.compare_in-found.ensures (sym c.if-is_ne.ensures) c.loop-column.invariant;
    }

pub returns : goal.returns
returns c = record { order = compared_end seen c.args.columns.now c.loop-column.column-index c.args.i c.args.j (omega arith) c.loop-column.invariant }
