use Rattle.qd_ilp.specs.Cut.{is_unquoted}
use Rattle.qd_ilp.proofs.Runs.{passes_on, none_pass}
use Rattle.qd_ilp.proofs.lanes.unquoted_runs.Goals as goal

pub loop-init : goal.loop-init
loop-init c = none_pass is_unquoted c.args.text.now

pub returns-then-run-lt-LANES : goal.returns-then-run-lt-LANES
returns-then-run-lt-LANES c = record { run = passes_on is_unquoted c.args.text.now c.behind.result.now c.loop.at c.unquoted_run-run.result c.loop.invariant c.behind.ensures.rest c.unquoted_run-run.ensures.run }

pub loop-preserved : goal.loop-preserved
loop-preserved c = passes_on is_unquoted c.args.text.now c.behind.result.now c.loop.at c.unquoted_run-run.result c.loop.invariant c.behind.ensures.rest c.unquoted_run-run.ensures.run
