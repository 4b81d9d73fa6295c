use Rattle.std.proofs.Common.{◌∙◌, ap, arith, map}
use Rattle.std.proofs.lemmas.List.{take_all}
use Rattle.qd_rows.specs.Runs.{no_run, places_of_runs}
use Rattle.qd_sample.proofs.RunTimes.{runs_more, time_at, times_are}
use Rattle.qd_sample.proofs.times.times_by_runs.Goals as goal

pub push_run-requires : goal.push_run-requires
push_run-requires g c = c.runs-run-items.ensures.each c.loop-run.run-index no_run (omega arith)

pub loop-run-preserved : goal.loop-run-preserved
loop-run-preserved g c = runs_more c.args.rows.now c.args.time_col c.runs-run-items.result.now c.loop-run.run-index no_run c.loop-run.times.items c.push_run.new.times.items (omega arith) c.loop-run.invariant c.in_ok-push_run.ensures.times

pub returns : goal.returns
returns g c = record {
  times = c.loop-run.invariant
      ∙ ap (λ l. map (time_at c.args.rows.now c.args.time_col) (places_of_runs l)) (take_all c.loop-run.run-index c.runs-run-items.result.now (omega arith))
      ∙ times_are c.args.rows.now c.args.time_col c.runs-run-items.result.now (c.runs-run-items.ensures.rows c.requires);
}
