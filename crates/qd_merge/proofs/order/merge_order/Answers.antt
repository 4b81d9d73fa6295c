use Rattle.std.proofs.Common.{◌≡◌, ◌≤◌, ℕ, List, All, subst, sym, arith, length}
use Rattle.std.proofs.lemmas.List.Elements.{All-nil}
use Rattle.qd_column.specs.declared.runs.Run.{Run}
use Rattle.qd_merge.specs.Order.{AddsRun}
use Rattle.qd_merge.proofs.Orders.{MergedSoFar, merge_begun, merge_more, merge_done}
use Rattle.qd_merge.proofs.order.merge_order.Goals as goal

pub loop-place-init : goal.loop-place-init
loop-place-init c =
    record {
      so_far = subst (λ (runs : List Run). MergedSoFar c.args.old.now c.args.skip c.args.gone.now c.args.new.now c.args.skip 0 runs) (sym c.new-runs.ensures.items) (merge_begun c.args.old.now c.args.skip c.args.gone.now c.args.new.now c.requires.flags c.requires.skip);
      ordered = subst (λ (runs : List Run). All (λ r. r.from ≤ r.to) runs) (sym c.new-runs.ensures.items) (All-nil (λ (r : Run). r.from ≤ r.to));
    }

pub loop-place-preserved : goal.loop-place-preserved
loop-place-preserved c =
    record {
      so_far = merge_more c.args.old.now c.args.skip c.args.gone.now c.args.new.now c.requires.flags c.loop-place.next c.loop-place.place c.first_later-next.result c.loop-place.runs.items c.push_kept.new.runs.items c.push_run.new.runs.items c.loop-place.invariant.so_far c.requires.old_in_order c.requires.new_in_order c.loop-place-test.true c.first_later-next.ensures.from c.first_later-next.ensures.within c.first_later-next.ensures.upto c.first_later-next.ensures.later c.in_ok-push_kept.ensures.added
          (subst (λ (r : Run). AddsRun c.push_kept.new.runs.items r c.push_run.new.runs.items) c.run.ensures.run c.in_ok-push_run.ensures.added);
      ordered = c.in_ok-push_run.ensures.runs;
    }

pub returns : goal.returns
returns c =
    let all : c.loop-place.place ≡ length c.args.new.now = omega arith in
    record { order = merge_done c.args.old.now c.args.skip c.args.gone.now c.args.new.now c.requires.flags c.loop-place.next c.loop-place.runs.items c.push_kept-2.new.runs.items (subst (λ (j : ℕ). MergedSoFar c.args.old.now c.args.skip c.args.gone.now c.args.new.now c.loop-place.next j c.loop-place.runs.items) all c.loop-place.invariant.so_far) c.in_ok-push_kept-2.ensures.added }
