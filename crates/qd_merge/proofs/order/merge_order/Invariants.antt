use Rattle.std.proofs.Common.{◌≤◌, All}
use Rattle.qd_merge.proofs.Orders.{MergedSoFar}
use Rattle.qd_merge.proofs.order.merge_order.Given as goal

-- the new rows so far are merged with the old ones that are no later
abbrev pub invariant-loop-place : goal.invariant-loop-place
invariant-loop-place l = record {
  so_far : MergedSoFar l.old l.fn.skip l.gone l.new l.next l.place l.runs.items;
  ordered : All (λ r. r.from ≤ r.to) l.runs.items;
}
