use Rattle.std.proofs.Common.{arith}
use Rattle.qd_gen.proofs.Batches.{kept_all, kept_in_time}
use Rattle.qd_gen.proofs.batch.kept_stretch.Goals as goal
use Rattle.qd_gen.proofs.batch.kept_stretch.Goals.{then-batch, else-batch}

pub returns : goal.returns
returns c =
    let first = c.first_line.ensures.first in
    let end = c.first_line-2.ensures.first in
    elim c.if-batch.branch [
      | then-batch w ↦ rw (w.share-is, first, end) (kept_all c.args.lines c.args.batch (omega (arith, w.if-batch.true)))
      | else-batch w ↦ rw (w.share-is, first, end) (kept_in_time c.args.lines c.args.batch (omega (arith, w.if-batch.false)))
    ]
