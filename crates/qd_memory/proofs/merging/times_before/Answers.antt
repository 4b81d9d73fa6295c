use Rattle.std.proofs.Common.{rules, ◌≡◌, ℕ, ◌<◌, ◌≤◌, ltb, get_or, arith}
use Rattle.std.proofs.lemmas.Bool.{ltb-true, ltb-false}
use Rattle.std.proofs.lemmas.List.Sorted.{IsPartitionPoint-from_clause, IsPartitionedBy-ltb}
use Rattle.qd_memory.proofs.merging.times_before.Goals as goal

pub returns : goal.returns
returns c =
    let xs = c.args.times.now in
    let m = c.args.moment in
    let parted = IsPartitionedBy-ltb (λ (x : ℕ). x) xs m c.requires in
    let point = IsPartitionPoint-from_clause (λ (x : ℕ). ltb x m) xs c.partition_point.result c.partition_point.ensures.partitioned parted (λ a r q k. search rules) in
    record {
      within = c.partition_point.ensures.bound;
      before = λ k lt. ltb-true (get_or xs k 0) m (point.0 k 0 (omega arith) lt);
      behind = λ k low high. ltb-false (get_or xs k 0) m (point.1 k 0 low high);
    }
