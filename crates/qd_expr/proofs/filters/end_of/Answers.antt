use Rattle.std.proofs.Common.{◌≡◌, arith}
use Rattle.qd_expr.proofs.FilterLemmas.{same_one, same_more}
use Rattle.qd_expr.proofs.filters.end_of.Goals as goal

pub loop-to-init : goal.loop-to-init
loop-to-init c = same_one c.args.found.now c.args.from

pub loop-to-preserved : goal.loop-to-preserved
loop-to-preserved c = same_more c.args.found.now c.args.from c.loop-to.to c.loop-to.invariant (grind arith)
