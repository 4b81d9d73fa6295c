use Rattle.std.proofs.Common.{◌≡◌, ◌++◌, drop}
use Rattle.qd_apply.specs.Plans.{late_from}
use Rattle.qd_apply.proofs.plans.late_of.Given as goal

-- the plans from a place on are left
abbrev pub invariant-loop-i : goal.invariant-loop-i
invariant-loop-i l = l.list.items ++ late_from l.i (drop l.i l.plans) ≡ late_from 0 l.plans
