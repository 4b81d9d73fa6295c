use Rattle.std.proofs.Common.{arith}
use Rattle.qd_time.proofs.UnitLemmas.{in_unit}
use Rattle.qd_time.proofs.parse.lengthen.Goals as goal

pub overflow_sub-last : goal.overflow_sub-last
overflow_sub-last c = omega (arith, (in_unit c.args.unit c.args.first).1, c.end_of.ensures.value)
