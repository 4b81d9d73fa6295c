use Rattle.std.proofs.Common.{rules, ℕ, Bool, ltb, get_or, sym, arith}
use Rattle.std.specs.List.Sorted.{IsPartitionedBy}
use Rattle.std.proofs.lemmas.Bool.{lt-ltb, ltb-true}
use Rattle.std.proofs.lemmas.List.Sorted.{IsPartitionPoint-from_clause}
use Rattle.qd_merge.proofs.Plans.{count_front}
use Rattle.qd_apply.proofs.olds.count_before.Goals as goal

pub returns : goal.returns
returns c =
    let m = c.args.moment in
    let xs = c.args.times.now in
    let p : ℕ → Bool = λ t. ltb t m in
    let parted : IsPartitionedBy p xs = λ i j d low high yes. lt-ltb (get_or xs i d) m (let later = ltb-true (get_or xs j d) m yes in let le = c.requires.order i j d low high in omega arith) in
    let point = IsPartitionPoint-from_clause p xs c.partition_point.result c.partition_point.ensures.partitioned parted (λ a r q k. search rules) in
    record {
      count = sym (count_front p xs c.partition_point.result c.partition_point.ensures.bound (λ k d lt. point.0 k d (omega arith) lt) (λ k d low high. point.1 k d low high));
      within = c.partition_point.ensures.bound;
    }
