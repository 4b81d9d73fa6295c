use Rattle.std.proofs.Common.{rules, ◌≡◌, ℕ, ◌<◌, ◌≤◌, ltb, get_or, arith}
use Rattle.std.proofs.lemmas.Bool.{ltb-true, ltb-false}
use Rattle.std.proofs.lemmas.List.Sorted.{IsPartitionPoint-from_clause, IsPartitionedBy-ltb}
use Rattle.qd_base.specs.declared.part.Part.{Part}
use Rattle.qd_manifest.specs.Spelling.{no_part}
use Rattle.qd_scan.proofs.PartLemmas.{ends_rise}
use Rattle.qd_scan.proofs.scans.ended_before.Goals as goal

pub returns : goal.returns
returns c =
    let xs = c.args.parts.now in
    let m = c.args.moment in
    let parted = IsPartitionedBy-ltb (λ (x : Part). x.hi) xs m (ends_rise xs c.requires) in
    let point = IsPartitionPoint-from_clause (λ (x : Part). ltb x.hi m) xs c.partition_point.result c.partition_point.ensures.partitioned parted (λ a r q k. search rules) in
    record {
      within = c.partition_point.ensures.bound;
      before = λ k lt. ltb-true (get_or xs k no_part).hi m (point.0 k no_part (omega arith) lt);
      behind = λ k low high. ltb-false (get_or xs k no_part).hi m (point.1 k no_part low high);
    }
