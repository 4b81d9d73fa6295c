use Rattle.std.proofs.Common.{◌≡◌, ◌++◌, Bool, drop, map}
use Rattle.std.specs.Prelude.{◌&&◌}
use Rattle.std.specs.List.{zip}
use Rattle.qd_expr.specs.Passing.{passes_in_run}
use Rattle.qd_expr.proofs.runs.also_by_row.Given as goal

abbrev pub invariant-loop-k : goal.invariant-loop-k
invariant-loop-k g l = l.kept.items ++ map (λ (p : Bool × Bool). p.0 && p.1) (zip (drop l.k l.found) (drop l.k (passes_in_run l.test l.rows l.run))) ≡ map (λ (p : Bool × Bool). p.0 && p.1) (zip l.found (passes_in_run l.test l.rows l.run))
