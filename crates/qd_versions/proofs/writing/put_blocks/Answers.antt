use Rattle.std.proofs.Common.{◌≡◌, ◌<◌, ◌≤◌, length, Err, Ok, refl, ◌∙◌, subst, arith}
use Rattle.std.proofs.lemmas.Result.{err_from_is_err_and}
use Rattle.std.specs.Arc.{arc_value}
use Rattle.qd_base.specs.declared.limits.TheConstants.{MAX_COLUMNS}
use Rattle.qd_block.specs.Blocks.{Block}
use Rattle.qd_io.specs.declared.fault.IoFault.{IoFault}
use Rattle.qd_durable.specs.Moments.{Told}
use Rattle.qd_column_files.specs.Calls.{PutsBlock}
use Rattle.qd_versions.proofs.Steps.{block_at, few_more, item_is, numbered_at}
use Rattle.qd_versions.proofs.ToldLemmas.{put_failed_told, put_more_told, put_none_told}
use Rattle.qd_versions.proofs.writing.put_blocks.Goals as goal

pub loop-added-init : goal.loop-added-init
loop-added-init g c = (put_none_told c.args.next c.args.blocks.now _, λ k d less. absurd (omega arith), refl)

pub put_block-requires : goal.put_block-requires
put_block-requires g c =
    let blocks = c.args.blocks.now in
    let at = numbered_at c.args.next blocks c.requires.numbered in
    let here : c.loop-added.added-index < length blocks = omega arith in
    let num = block_at c.args.next c.loop-added.added-index blocks c.added-item.result at here (item_is blocks c.loop-added.added-index c.added-item.result here c.added-item.is) in
    record { block = omega (arith, num, c.requires.small, here) }

pub returns-in_err-put_block-clause-told : goal.returns-in_err-put_block-clause-told
returns-in_err-put_block-clause-told g c =
    let p = err_from_is_err_and c.from_residual.result c.from_residual.ensures.1 in
    let blocks = c.args.blocks.now in
    let at = numbered_at c.args.next blocks c.requires.numbered in
    let here : c.loop-added.added-index < length blocks = omega arith in
    let new = c.added-item.result in
    let is = item_is blocks c.loop-added.added-index new here c.added-item.is in
    let num = block_at c.args.next c.loop-added.added-index blocks new at here is in
    let same : c.deref-in-loop-added.result.now ≡ arc_value new.of = cc in
    rw p.1
    (put_failed_told c.args.next c.loop-added.added-index blocks at c.requires.small here new _ _ _ c.loop-added.invariant.0 c.in_err-put_block.field-0.0 p.0 num
    (subst (λ (b : Block). Told (g.V.Volume.storage c.loop-added.volume).disk (g.V.Volume.storage c.put_block.new.volume).disk (PutsBlock {T = Unit {0}} {E = IoFault} (Err c.in_err-put_block.field-0.0) new.block b)) same c.in_err-put_block.ensures.told))

pub loop-added-preserved : goal.loop-added-preserved
loop-added-preserved g c =
    let blocks = c.args.blocks.now in
    let at = numbered_at c.args.next blocks c.requires.numbered in
    let here : c.loop-added.added-index < length blocks = omega arith in
    let new = c.added-item.result in
    let is = item_is blocks c.loop-added.added-index new here c.added-item.is in
    let num = block_at c.args.next c.loop-added.added-index blocks new at here is in
    let same : c.deref-in-loop-added.result.now ≡ arc_value new.of = cc in
    let first : c.deref.result.now ≡ arc_value new.of = cc in
    let narrow = subst (λ (b : Block). length b.kinds ≤ MAX_COLUMNS) first c.is_whole.ensures.whole.few in
    let few = few_more c.loop-added.added-index blocks new is narrow c.loop-added.invariant.1 in (
      put_more_told c.args.next c.loop-added.added-index blocks at c.requires.small here new _ _ _ c.loop-added.invariant.0 c.in_ok-put_block.field-0 is few
          (subst (λ (b : Block). Told (g.V.Volume.storage c.loop-added.volume).disk (g.V.Volume.storage c.put_block.new.volume).disk (PutsBlock {T = Unit {0}} {E = IoFault} (Ok c.in_ok-put_block.field-0) new.block b)) same c.in_ok-put_block.ensures.told),
      few,
      c.in_ok-put_block.ensures.counted ∙ c.loop-added.invariant.2,
    )
