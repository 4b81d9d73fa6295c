use Rattle.std.proofs.Common.{rules, ◌≡◌, ℕ, ◌<◌, ◌≤◌, leb, get_or, arith}
use Rattle.std.proofs.lemmas.Bool.{leb-true, leb-false}
use Rattle.std.proofs.lemmas.List.Sorted.{IsPartitionPoint-from_clause, IsPartitionedBy-leb}
use Rattle.qd_base.specs.declared.part.Part.{Part}
use Rattle.qd_manifest.specs.Spelling.{no_part}
use Rattle.qd_scan.proofs.PartLemmas.{begins_rise}
use Rattle.qd_scan.proofs.scans.begun_by.Goals as goal

pub returns : goal.returns
returns c =
    let xs = c.args.parts.now in
    let m = c.args.moment in
    let parted = IsPartitionedBy-leb (λ (x : Part). x.lo) xs m (begins_rise xs c.requires) in
    let point = IsPartitionPoint-from_clause (λ (x : Part). leb x.lo m) xs c.partition_point.result c.partition_point.ensures.partitioned parted (λ a r q k. search rules) in
    record {
      within = c.partition_point.ensures.bound;
      before = λ k lt. leb-true (get_or xs k no_part).lo m (point.0 k no_part (omega arith) lt);
      behind = λ k low high. leb-false (get_or xs k no_part).lo m (point.1 k no_part low high);
    }
