use Rattle.std.proofs.Common.{◌<◌, length, arith}
use Rattle.qd_query.proofs.IntervalLemmas.{allowed_more, catches_more}
use Rattle.qd_query.proofs.interval.times_of_all.Goals as goal

pub loop-part-preserved : goal.loop-part-preserved
loop-part-preserved c =
    let low : c.loop-part.part-index < length c.args.parts.now = omega arith in
    record {
      caught = catches_more c.args.parts.now c.loop-part.part-index c.part-item.result c.args.col c.loop-part.found.lo c.loop-part.found.hi c.times_of_part.result.lo c.times_of_part.result.hi c.meet-found.result.lo c.meet-found.result.hi low c.part-item.is
          c.loop-part.invariant.caught c.times_of_part.ensures.caught c.meet-found.ensures.lo c.meet-found.ensures.hi;
      allowed = allowed_more c.args.col c.args.parts.now c.loop-part.part-index c.part-item.result c.loop-part.found.lo c.loop-part.found.hi c.times_of_part.result.lo c.times_of_part.result.hi c.meet-found.result.lo c.meet-found.result.hi low c.part-item.is
          c.loop-part.invariant.allowed c.times_of_part.ensures.allowed c.meet-found.ensures.lo c.meet-found.ensures.hi;
    }
