use Rattle.std.proofs.Common.{◌≡◌, map, take}
use Rattle.std.specs.Prelude.{fold}
use Rattle.qd_rows.specs.Runs.{places_of_runs}
use Rattle.qd_group.specs.Tallied.{state_of}
use Rattle.qd_group.specs.Tallies.{next, start}
use Rattle.qd_group.proofs.SumLemmas.{taken}
use Rattle.qd_group.proofs.tallying.tally_by_runs.Given as goal

-- the tally of the runs so far
abbrev pub invariant-loop-run : goal.invariant-loop-run
invariant-loop-run g l = state_of l.tally ≡ fold next (start l.agg) (map (taken l.agg l.rows) (places_of_runs (take l.run-index l.run-items)))
