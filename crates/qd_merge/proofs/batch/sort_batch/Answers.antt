use Rattle.std.proofs.Common.{◌≡◌, ◌∙◌, ap, subst, refl, map}
use Rattle.std.specs.List.Sorted.{IsNonDecreasing}
use Rattle.qd_base.specs.Rows.{time_of}
use Rattle.qd_base.proofs.Sorted.{stable_is_put}
use Rattle.qd_merge.proofs.Times.{rows_in_order}
use Rattle.qd_merge.proofs.batch.sort_batch.Goals as goal

pub returns-then-rises : goal.returns-then-rises
returns-then-rises c =
    let col = c.args.time_col in
    let times : c.as_slice-2.result.now ≡ map (time_of col) c.args.rows = c.as_slice-2.ensures.value ∙ c.in_ok-times.ensures.times ∙ ap (map (time_of col)) c.as_slice.ensures.items in
    let rising : IsNonDecreasing (map (time_of col) c.args.rows) = subst IsNonDecreasing times c.if-rises.ensures.rises in
    record { sorted = stable_is_put col c.args.rows c.args.rows (rows_in_order col c.args.rows rising) (λ t. refl) }
