use Rattle.std.proofs.Common.{◌≡◌, ◌∙◌, ◌≤◌, ℕ, List, Bool, All, Contains, ap, ap₂, sym, subst, length, arith}
use Rattle.std.proofs.lemmas.Bool.{eqb-true, eqb-false}
use Rattle.std.proofs.lemmas.List.Elements.{All-nil}
use Rattle.std.proofs.lemmas.Result.{IfOk-weaker}
use Rattle.qd_base.specs.Rows.{Row}
use Rattle.qd_base.specs.Laws.{IsInOrder}
use Rattle.qd_column.specs.declared.runs.Run.{Run}
use Rattle.qd_merge.specs.Batch.{last_of_equals}
use Rattle.qd_merge.specs.Classes.{kept}
use Rattle.qd_merge.specs.Merged.{laid_rows}
use Rattle.qd_merge.specs.Order.{AddsKept, AreRunsOf}
use Rattle.qd_merge.specs.Outdated.{outdated}
use Rattle.qd_merge.proofs.Batches.{in_order-lasts}
use Rattle.qd_merge.proofs.ClassLemmas.{last_of_none, last_of_some}
use Rattle.qd_merge.proofs.Groups.{keys_have}
use Rattle.qd_merge.proofs.Outdating.{kept-outdated, length-outdated, laid_kept, runs_kept}
use Rattle.qd_merge.proofs.dedup.dedup_block.Goals as goal

pub returns-then-is_empty : goal.returns-then-is_empty
returns-then-is_empty c =
    let block = c.args.block.now in
    let keys = c.args.keys.now in
    let none : length keys ≡ 0 = eqb-true (length keys) 0 (sym c.is_empty.ensures.empty ∙ c.if-is_empty.true) in
    let same : block.rows ≡ last_of_equals keys block.rows = last_of_none keys block.rows none in
    record {
      last = IfOk-weaker c.copy.result _ _ (λ b h. h ∙ ap (λ (rs : List Row). record block { rows = rs }) same) c.copy.ensures.same;
      of_sorted = λ came e. IfOk-weaker c.copy.result _ _ (λ b h. h ∙ ap (λ (rs : List Row). record block { rows = rs }) (same ∙ ap (last_of_equals keys) e)) c.copy.ensures.same;
    }

pub outdated-requires : goal.outdated-requires
outdated-requires c =
    let some : length c.args.keys.now ≡ 0 → ⊥ = eqb-false (length c.args.keys.now) 0 (sym c.is_empty.ensures.empty ∙ c.if-is_empty.false) in
    record { keys = keys_have c.args.block.now.time_col c.args.keys.now c.requires.keys some }

pub push_kept-requires-clause-runs : goal.push_kept-requires-clause-runs
push_kept-requires-clause-runs c = subst (λ (runs : List Run). All (λ r. r.from ≤ r.to) runs) (sym c.new-runs.ensures.items) (All-nil (λ (r : Run). r.from ≤ r.to))

pub spliced_block-requires-clause-runs : goal.spliced_block-requires-clause-runs
spliced_block-requires-clause-runs c =
    let block = c.args.block.now in
    let gone : List Bool = c.as_slice.result.now in
    let flags : gone ≡ outdated c.args.keys.now block.rows = c.as_slice.ensures.value ∙ c.in_ok-gone.ensures.flags in
    let all : c.len.result ≡ length gone = omega (arith, c.len.ensures, ap length c.as_slice.ensures.value) in
    let size : length gone ≡ length block.rows = ap length flags ∙ length-outdated c.args.keys.now block.rows in
    subst (AreRunsOf (length block.rows) (length block.rows)) (sym c.as_slice-2.ensures.value) (runs_kept block gone c.new-runs.result.items c.push_kept.new.runs.items c.len.result c.new-runs.ensures.items all size c.in_ok-push_kept.ensures.added)

pub spliced_block-requires-clause-order : goal.spliced_block-requires-clause-order
spliced_block-requires-clause-order c =
    let block = c.args.block.now in
    let keys = c.args.keys.now in
    let gone : List Bool = c.as_slice.result.now in
    let flags : gone ≡ outdated keys block.rows = c.as_slice.ensures.value ∙ c.in_ok-gone.ensures.flags in
    let all : c.len.result ≡ length gone = omega (arith, c.len.ensures, ap length c.as_slice.ensures.value) in
    let size : length gone ≡ length block.rows = ap length flags ∙ length-outdated keys block.rows in
    let laid = ap (laid_rows block block) c.as_slice-2.ensures.value ∙ laid_kept block gone c.new-runs.result.items c.push_kept.new.runs.items c.len.result c.new-runs.ensures.items all size c.in_ok-push_kept.ensures.added c.is_whole.ensures.whole ∙ ap (λ (f : List Bool). kept f block.rows) flags ∙ kept-outdated keys block.rows in
    subst (IsInOrder block.time_col) (sym laid) (in_order-lasts block.time_col keys block.rows c.is_whole.ensures.whole.order)

pub returns : goal.returns
returns c =
    let block = c.args.block.now in
    let keys = c.args.keys.now in
    let some : length keys ≡ 0 → ⊥ = eqb-false (length keys) 0 (sym c.is_empty.ensures.empty ∙ c.if-is_empty.false) in
    let gone : List Bool = c.as_slice.result.now in
    let flags : gone ≡ outdated keys block.rows = c.as_slice.ensures.value ∙ c.in_ok-gone.ensures.flags in
    let all : c.len.result ≡ length gone = omega (arith, c.len.ensures, ap length c.as_slice.ensures.value) in
    let size : length gone ≡ length block.rows = ap length flags ∙ length-outdated keys block.rows in
    let laid : laid_rows block block c.as_slice-2.result.now ≡ last_of_equals keys block.rows =
    ap (laid_rows block block) c.as_slice-2.ensures.value ∙ laid_kept block gone c.new-runs.result.items c.push_kept.new.runs.items c.len.result c.new-runs.ensures.items all size c.in_ok-push_kept.ensures.added c.is_whole.ensures.whole ∙ ap (λ (f : List Bool). kept f block.rows) flags ∙ kept-outdated keys block.rows ∙ last_of_some keys block.rows some in
    record {
      last = IfOk-weaker c.spliced_block.result _ _ (λ b h. h ∙ ap (λ (rs : List Row). record block { rows = rs }) laid) c.spliced_block.ensures.block;
      of_sorted = λ came e. IfOk-weaker c.spliced_block.result _ _ (λ b h. h ∙ ap (λ (rs : List Row). record block { rows = rs }) (laid ∙ ap (last_of_equals keys) e)) c.spliced_block.ensures.block;
    }
