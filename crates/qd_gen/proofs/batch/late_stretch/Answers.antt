use Rattle.std.proofs.Common.{◌≡◌, arith}
use Rattle.qd_gen.proofs.Batches.{late_first, late_is}
use Rattle.qd_gen.proofs.batch.late_stretch.Goals as goal
use Rattle.qd_gen.proofs.batch.late_stretch.Goals.{then-batch-eq0, else-batch-eq0}

pub returns : goal.returns
returns c =
    let first = c.first_line.ensures.first in
    let end = c.first_line-2.ensures.first in
    elim c.if-batch-eq0.branch [
      | then-batch-eq0 w ↦
          let before : c.if-batch-eq0.before ≡ c.args.batch = omega (arith, w.before-is, w.if-batch-eq0.true) in
          late_first c.args.lines c.args.batch c.first_line.result c.first_line-2.result (omega (arith, w.if-batch-eq0.true)) (cc (first, end, before))
      | else-batch-eq0 w ↦
          rw (first, end) (late_is c.args.lines c.args.batch c.if-batch-eq0.before (omega (arith, w.before-is, w.if-batch-eq0.false)) (omega arith))
    ]
