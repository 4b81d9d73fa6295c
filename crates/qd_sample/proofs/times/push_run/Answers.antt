use Rattle.std.proofs.Common.{◌∙◌, ◌++◌, ℕ, List, ap}
use Rattle.std.proofs.lemmas.Result.{on_ok_weaker}
use Rattle.qd_sample.proofs.RunTimes.{moments_are}
use Rattle.qd_sample.proofs.times.push_run.Goals as goal

pub returns-in-Some : goal.returns-in-Some
returns-in-Some g c = record {
  times = on_ok_weaker c.push_moments.result
      (λ h. h ∙ ap (λ (l : List ℕ). c.args.times.now.items ++ l) (moments_are c.args.rows.now c.args.time_col c.args.run c.in-Some.moments.now c.in-Some.ensures.moments))
      c.push_moments.ensures.times;
}
