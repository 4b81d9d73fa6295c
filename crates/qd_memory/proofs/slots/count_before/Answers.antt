use Rattle.std.proofs.Common.{rules, ◌≡◌, ℕ, ◌<◌, ◌≤◌, ltb, get_or, arith}
use Rattle.std.proofs.lemmas.Bool.{ltb-true, ltb-false}
use Rattle.std.proofs.lemmas.List.Sorted.{IsPartitionPoint-from_clause, IsPartitionedBy-ltb}
use Rattle.qd_memory.specs.declared.slots.Slot.{Slot}
use Rattle.qd_memory.proofs.slots.count_before.Goals as goal

pub returns : goal.returns
returns c =
    let xs = c.args.slots.now in
    let m = c.args.start in
    let parted = IsPartitionedBy-ltb (λ (x : Slot). x.start) xs m c.requires in
    let point = IsPartitionPoint-from_clause (λ (x : Slot). ltb x.start m) xs c.partition_point.result c.partition_point.ensures.partitioned parted (λ a r q k. search rules) in
    record {
      place = record {
        within = c.partition_point.ensures.bound;
        before = λ k d lt. ltb-true (get_or xs k d).start m (point.0 k d (omega arith) lt);
        behind = λ k d low high. ltb-false (get_or xs k d).start m (point.1 k d low high);
      };
    }
