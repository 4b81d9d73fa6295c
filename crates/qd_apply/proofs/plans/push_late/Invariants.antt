use Rattle.std.proofs.Common.{◌≡◌, ◌++◌, drop}
use Rattle.qd_apply.specs.Olds.{late_by, times_of}
use Rattle.qd_apply.proofs.plans.push_late.Given as goal

-- the shares from a place on are left
abbrev pub invariant-loop-share : goal.invariant-loop-share
invariant-loop-share l = l.list.items ++ late_by l.table (times_of l.plan.batch) (drop l.share-index l.plan.shares.items) ≡ l.initial.list.items ++ late_by l.table (times_of l.plan.batch) l.plan.shares.items
