use Rattle.std.proofs.Common.{◌≡◌, ◌∙◌, ◌≤◌, ℕ, List, All, ap, sym, subst, map}
use Rattle.std.specs.List.Sorted.{IsNonDecreasing}
use Rattle.qd_base.specs.declared.limits.TheConstants.{MAX_TIME}
use Rattle.qd_base.specs.Rows.{Row, time_of}
use Rattle.std.proofs.lemmas.List.Elements.{All-map}
use Rattle.qd_merge.proofs.Times.{times_rise}
use Rattle.qd_merge.proofs.plan.plan_merge.Goals as goal

pub plan_times-requires-clause-in_order : goal.plan_times-requires-clause-in_order
plan_times-requires-clause-in_order c =
    let col = c.args.schema.now.time_col in
    let same : c.as_slice-3.result.now ≡ map (time_of col) c.args.batch.now = c.as_slice-3.ensures.value ∙ c.in_ok-times.ensures.times ∙ ap (map (time_of col)) c.as_slice.ensures.items in
    subst IsNonDecreasing (sym same) (times_rise col c.args.batch.now c.requires.in_order)

pub plan_times-requires-clause-times : goal.plan_times-requires-clause-times
plan_times-requires-clause-times c =
    let col = c.args.schema.now.time_col in
    let same : c.as_slice-3.result.now ≡ map (time_of col) c.args.batch.now = c.as_slice-3.ensures.value ∙ c.in_ok-times.ensures.times ∙ ap (map (time_of col)) c.as_slice.ensures.items in
    subst (λ (ts : List ℕ). All (λ t. t ≤ MAX_TIME) ts) (sym same) (All-map (λ t. t ≤ MAX_TIME) (time_of col) c.args.batch.now c.requires.times)
