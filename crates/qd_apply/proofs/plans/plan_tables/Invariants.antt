use Rattle.std.proofs.Common.{ℕ, length, map}
use Rattle.std.specs.Prelude.{Vec}
use Rattle.std.specs.declared.alloc.Global.{Global}
use Rattle.qd_apply.proofs.ServeLemmas.{ArePlannedSo}
use Rattle.qd_apply.proofs.plans.plan_tables.Given as goal

-- the tables so far have plans, and the others are left, the first of them last
abbrev pub invariant-loop-table : goal.invariant-loop-table
invariant-loop-table l = ArePlannedSo (map (λ (v : Vec ℕ Global). v.items) l.written) l.split_rows l.shape l.fn.tables.items l.left.items l.plans.items

abbrev pub decreases-loop-table : goal.decreases-loop-table
decreases-loop-table l = length l.left.items
