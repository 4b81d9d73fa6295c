use Rattle.std.proofs.Common.{◌<◌, subst, arith, length}
use Rattle.qd_column.specs.declared.runs.Run.{Run}
use Rattle.qd_merge.specs.Order.{AddsRun}
use Rattle.qd_merge.proofs.Orders.{kept_more, kept_gone}
use Rattle.qd_merge.proofs.order.push_kept.Goals as goal
use Rattle.qd_merge.proofs.order.push_kept.Goals.{then-not-gone-place+in_ok-push_run, else-not-gone-place}

pub loop-place-preserved : goal.loop-place-preserved
loop-place-preserved c =
    let within : c.loop-place.place < length c.args.gone.now = omega arith in
    elim c.if-not-gone-place.branch [
      | then-not-gone-place+in_ok-push_run w ↦
          record {
            added = rw w.runs-is (kept_more c.args.runs.now.items c.loop-place.runs.items w.push_run.new.runs.items c.args.gone.now c.args.from c.loop-place.place c.loop-place.invariant.added (omega arith) within w.if-not-gone-place.true (subst (λ (r : Run). AddsRun c.loop-place.runs.items r w.push_run.new.runs.items) w.run.ensures.run w.in_ok-push_run.ensures.added));
            ordered = rw w.runs-is w.in_ok-push_run.ensures.runs;
          }
      | else-not-gone-place w ↦ record { added = rw w.runs-is (kept_gone c.args.runs.now.items c.loop-place.runs.items c.args.gone.now c.args.from c.loop-place.place c.loop-place.invariant.added (omega arith) within w.if-not-gone-place.false); ordered = rw w.runs-is c.loop-place.invariant.ordered }
    ]
