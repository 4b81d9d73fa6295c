use Rattle.std.proofs.Common.{◌≤◌, ◌-◌, length, leb, leb-true, arith, rules}
use Rattle.std.proofs.lemmas.Bool.{leb-false}
use Rattle.std.proofs.lemmas.List.Sorted.{IsPartitionPoint-from_clause, IsPartitionedBy-leb}
use Rattle.qd_rows.specs.declared.runs.Run.{Run}
use Rattle.qd_rows.specs.Runs.{no_run, places_of_runs}
use Rattle.qd_rows.proofs.RunLemmas.{HasPlace, runs_rise, run_found}
use Rattle.qd_latest.proofs.parts.run_of.Goals as goal

found : (c : goal.After-partition_point) → (1 ≤ c.partition_point.result) × HasPlace c.args.runs.now (c.partition_point.result - 1) c.args.i
found c =
    let runs = c.args.runs.now in
    let parted = IsPartitionedBy-leb (λ (r : Run). r.before) runs c.args.i (runs_rise 0 (length (places_of_runs runs)) runs c.requires.runs) in
    let point = IsPartitionPoint-from_clause (λ (r : Run). leb r.before c.args.i) _ _ c.partition_point.ensures.partitioned parted (λ a r q k. search rules) in
    run_found (length (places_of_runs runs)) c.args.i c.partition_point.result runs c.requires.runs c.requires.within c.partition_point.ensures.bound (λ k low. leb-true _ _ (point.0 k no_run (omega arith) low)) (λ k low high. leb-false _ _ (point.1 k no_run low high))

pub overflow_sub-result : goal.overflow_sub-result
overflow_sub-result c = (found c).0

pub returns-clause-there : goal.returns-clause-there
returns-clause-there c = (found c).1.there

pub returns-clause-first : goal.returns-clause-first
returns-clause-first c = (found c).1.first

pub returns-clause-last : goal.returns-clause-last
returns-clause-last c = (found c).1.last
