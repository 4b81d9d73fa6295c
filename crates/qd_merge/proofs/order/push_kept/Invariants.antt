use Rattle.std.proofs.Common.{◌≤◌, All}
use Rattle.qd_merge.specs.Order.{AddsKept}
use Rattle.qd_merge.proofs.order.push_kept.Given as goal

-- the rows so far are added
abbrev pub invariant-loop-place : goal.invariant-loop-place
invariant-loop-place l = record {
  added : AddsKept l.fn.runs.items l.gone l.fn.from l.place l.runs.items;
  ordered : All (λ r. r.from ≤ r.to) l.runs.items;
}
