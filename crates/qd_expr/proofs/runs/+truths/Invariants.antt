use Rattle.std.proofs.Common.{◌≡◌, take}
use Rattle.qd_expr.specs.Passing.{all_in_run, any_in_run}
use Rattle.qd_expr.proofs.runs.+truths.Given as goal

abbrev pub invariant-all-loop-test : goal.invariant-all-loop-test
invariant-all-loop-test g l = l.found.items ≡ all_in_run (take l.test-index l.tests) l.rows l.run

abbrev pub invariant-any-loop-test : goal.invariant-any-loop-test
invariant-any-loop-test g l = l.found.items ≡ any_in_run (take l.test-index l.tests) l.rows l.run
