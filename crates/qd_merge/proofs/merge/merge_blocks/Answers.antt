use Rattle.std.proofs.Common.{◌∙◌, ℕ, List, ap, sym, subst, length, arith}
use Rattle.std.proofs.lemmas.List.{length-map}
use Rattle.std.proofs.lemmas.Result.{IfOk-weaker}
use Rattle.qd_base.specs.Rows.{Row}
use Rattle.qd_base.specs.Laws.{IsInOrder}
use Rattle.qd_merge.specs.Merged.{laid_rows, with_missing}
use Rattle.qd_merge.specs.Order.{AreRunsOf}
use Rattle.qd_merge.specs.Replaced.{is_replaced}
use Rattle.qd_merge.proofs.Lent.{lent_times, at_col}
use Rattle.qd_merge.proofs.Merges.{merged_by_runs, merged_in_time}
use Rattle.qd_merge.proofs.Splices.{kinds_narrow}
use Rattle.qd_merge.proofs.merge.merge_blocks.Goals as goal

pub replaced-requires-clause-narrow : goal.replaced-requires-clause-narrow
replaced-requires-clause-narrow c = kinds_narrow c.args.old.now c.args.batch.now c.requires.kinds

pub merge_order-requires-clause-skip : goal.merge_order-requires-clause-skip
merge_order-requires-clause-skip c = let lent = lent_times c.args.old.now c.times.result.now c.is_whole.ensures.whole c.times.ensures.times in omega (arith, lent.size, c.requires.skip)

pub merge_order-requires-clause-flags : goal.merge_order-requires-clause-flags
merge_order-requires-clause-flags c =
    let lent = lent_times c.args.old.now c.times.result.now c.is_whole.ensures.whole c.times.ensures.times in
    let size = length-map c.args.old.now.rows (λ (r : Row). is_replaced c.args.keys.now c.args.batch.now.rows (with_missing c.args.batch.now.kinds r)) in
    ap length (c.as_slice.ensures.value ∙ c.in_ok-gone.ensures.flags) ∙ size ∙ sym lent.size

pub merge_order-requires-clause-old_in_order : goal.merge_order-requires-clause-old_in_order
merge_order-requires-clause-old_in_order c = (lent_times c.args.old.now c.times.result.now c.is_whole.ensures.whole c.times.ensures.times).rise

pub merge_order-requires-clause-new_in_order : goal.merge_order-requires-clause-new_in_order
merge_order-requires-clause-new_in_order c = (lent_times c.args.batch.now c.times-2.result.now c.is_whole-2.ensures.whole c.times-2.ensures.times).rise

pub spliced_block-requires-clause-runs : goal.spliced_block-requires-clause-runs
spliced_block-requires-clause-runs c =
    let old = lent_times c.args.old.now c.times.result.now c.is_whole.ensures.whole c.times.ensures.times in
    let new = lent_times c.args.batch.now c.times-2.result.now c.is_whole-2.ensures.whole c.times-2.ensures.times in
    let within = c.in_ok-runs.ensures.order.within in
    subst (AreRunsOf (length c.args.old.now.rows) (length c.args.batch.now.rows)) (sym c.as_slice-2.ensures.value) (subst (λ (n : ℕ). AreRunsOf n (length c.args.batch.now.rows) c.in_ok-runs.runs.items) old.size (subst (λ (m : ℕ). AreRunsOf (length c.times.result.now) m c.in_ok-runs.runs.items) new.size within))

pub spliced_block-requires-clause-order : goal.spliced_block-requires-clause-order
spliced_block-requires-clause-order c =
    let old = lent_times c.args.old.now c.times.result.now c.is_whole.ensures.whole c.times.ensures.times in
    let new = lent_times c.args.batch.now c.times-2.result.now c.is_whole-2.ensures.whole c.times-2.ensures.times in
    let laid = merged_by_runs c.args.keys.now c.args.old.now c.args.batch.now c.args.skip c.as_slice.result.now c.times.result.now c.times-2.result.now c.in_ok-runs.runs.items c.is_whole.ensures.whole c.requires.time_col (at_col c.args.old.now c.times.result.now c.args.batch.now.time_col c.requires.time_col old) new.same c.requires.batch (c.as_slice.ensures.value ∙ c.in_ok-gone.ensures.flags) c.in_ok-runs.ensures.order in
    subst (IsInOrder c.args.batch.now.time_col) (sym (ap (laid_rows c.args.old.now c.args.batch.now) c.as_slice-2.ensures.value ∙ laid)) (merged_in_time c.args.keys.now c.args.old.now c.args.batch.now c.args.skip c.is_whole.ensures.whole c.requires.time_col)

pub returns : goal.returns
returns c =
    let old = lent_times c.args.old.now c.times.result.now c.is_whole.ensures.whole c.times.ensures.times in
    let new = lent_times c.args.batch.now c.times-2.result.now c.is_whole-2.ensures.whole c.times-2.ensures.times in
    let laid = merged_by_runs c.args.keys.now c.args.old.now c.args.batch.now c.args.skip c.as_slice.result.now c.times.result.now c.times-2.result.now c.in_ok-runs.runs.items c.is_whole.ensures.whole c.requires.time_col (at_col c.args.old.now c.times.result.now c.args.batch.now.time_col c.requires.time_col old) new.same c.requires.batch (c.as_slice.ensures.value ∙ c.in_ok-gone.ensures.flags) c.in_ok-runs.ensures.order in
    record { merged = IfOk-weaker c.spliced_block.result _ _ (λ b h. h ∙ ap (λ (rs : List Row). record c.args.batch.now { rows = rs }) (ap (laid_rows c.args.old.now c.args.batch.now) c.as_slice-2.ensures.value ∙ laid)) c.spliced_block.ensures.block }
