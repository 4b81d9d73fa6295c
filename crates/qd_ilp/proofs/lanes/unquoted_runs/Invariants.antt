use Rattle.qd_ilp.specs.Cut.{is_unquoted}
use Rattle.qd_ilp.specs.Run.{Passes}
use Rattle.qd_ilp.proofs.lanes.unquoted_runs.Given as goal

abbrev pub invariant-loop : goal.invariant-loop
invariant-loop l = Passes is_unquoted l.text l.at
