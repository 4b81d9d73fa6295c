use Rattle.qd_plan.specs.Names.{names, IsTried}
use Rattle.qd_plan.proofs.outs.least_new.Given as goal

-- the numbers so far
abbrev pub invariant-loop-before : goal.invariant-loop-before
invariant-loop-before l = IsTried (names l.cols) l.name l.before
