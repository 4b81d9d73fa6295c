use Rattle.std.proofs.Common.{◌≡◌, ◌++◌, drop}
use Rattle.qd_time.specs.Units.{unit_of}
use Rattle.qd_merge.specs.Acts.{acts, acts_from}
use Rattle.qd_merge.proofs.plan.plan_times.Given as goal

-- the acts on the parts from a number on are left
abbrev pub invariant-loop-number : goal.invariant-loop-number
invariant-loop-number l = l.acts ++ acts_from (unit_of l.unit) l.times l.done l.number (drop l.number l.parts) ≡ acts (unit_of l.unit) l.parts l.times
