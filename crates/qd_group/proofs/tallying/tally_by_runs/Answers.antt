use Rattle.qd_rows.specs.Runs.{no_run}
use Rattle.std.proofs.Common.{◌∙◌, map, ap, arith}
use Rattle.std.specs.Prelude.{fold}
use Rattle.qd_rows.specs.Runs.{places_of_runs}
use Rattle.std.proofs.lemmas.List.{take_all}
use Rattle.qd_group.specs.Tallied.{state_of}
use Rattle.qd_group.specs.Tallies.{next, start}
use Rattle.qd_group.proofs.SumLemmas.{runs_more, rows_of_runs, taken}
use Rattle.qd_group.proofs.tallying.tally_by_runs.Goals as goal

pub loop-run-preserved : goal.loop-run-preserved
loop-run-preserved g c = runs_more (taken c.args.agg.now c.args.rows.now) (start c.args.agg.now) c.runs-run-items.result.now c.loop-run.run-index no_run (state_of c.loop-run.tally) (state_of c.in_ok-tally.tally) (omega arith) c.loop-run.invariant c.in_ok-tally.ensures.tally

pub returns : goal.returns
returns g c = record {
  tally = c.loop-run.invariant
      ∙ ap (λ l. fold next (start c.args.agg.now) (map (taken c.args.agg.now c.args.rows.now) (places_of_runs l))) (take_all c.loop-run.run-index c.runs-run-items.result.now (omega arith))
      ∙ rows_of_runs c.args.agg.now c.args.rows.now c.runs-run-items.result.now (c.runs-run-items.ensures.rows c.requires.single);
}
