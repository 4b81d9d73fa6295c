use Rattle.std.proofs.Common.{◌≡◌, ◌∙◌, ap, sym, subst, refl, List, get_or, length, arith}
use Rattle.std.proofs.lemmas.List.{take_all}
use Rattle.std.proofs.lemmas.Result.{IfOk-weaker}
use Rattle.qd_base.specs.declared.schema.ColType.{ColType}
use Rattle.qd_base.specs.Lawful.{HasKinds}
use Rattle.qd_base.specs.Rows.{Row}
use Rattle.qd_block.specs.Blocks.{Block, Building, FitsKinds, IsTimed, in_time_order}
use Rattle.qd_base.proofs.Sorted.{stable_is_put}
use Rattle.qd_block.proofs.FitLemmas.{fits_columns}
use Rattle.qd_block.proofs.block.Block.from_rows.Goals as goal

pub push_row-requires-clause-fits : goal.push_row-requires-clause-fits
push_row-requires-clause-fits g c =
    let k = c.loop-row.row-index in
    let x = c.row-item.result in
    let at : x ≡ get_or c.args.rows.now k x = c.row-item.is ∙ ap (λ (rs : List Row). get_or rs k x) c.as_slice-row-items.ensures.items in
    let has : HasKinds c.args.cols.now x = subst (HasKinds c.args.cols.now) (sym at) (c.requires.fit k x (omega (arith, ap length c.as_slice-row-items.ensures.items))) in
    subst (λ (ks : List ColType). FitsKinds ks x) (sym (ap (λ (b : Building). b.kinds) c.loop-row.invariant)) (fits_columns c.args.cols.now x has)

pub push_row-requires-clause-timed : goal.push_row-requires-clause-timed
push_row-requires-clause-timed g c =
    let k = c.loop-row.row-index in
    let x = c.row-item.result in
    let at : x ≡ get_or c.args.rows.now k x = c.row-item.is ∙ ap (λ (rs : List Row). get_or rs k x) c.as_slice-row-items.ensures.items in
    let timed : IsTimed c.args.time_col x = subst (IsTimed c.args.time_col) (sym at) (c.requires.timed k x (omega (arith, ap length c.as_slice-row-items.ensures.items))) in
    subst (λ t. IsTimed t x) (sym (ap (λ (b : Building). b.time_col) c.loop-row.invariant)) timed

pub returns-clause-in_order : goal.returns-clause-in_order
returns-clause-in_order g c = λ order.
    let rows = c.args.rows.now in
    let all : c.loop-row.builder.rows ≡ rows = ap (λ (b : Building). b.rows) c.loop-row.invariant ∙ take_all c.loop-row.row-index c.as_slice-row-items.result.now c.loop-row-test.false ∙ c.as_slice-row-items.ensures.items in
    let same : rows ≡ in_time_order c.args.time_col rows = stable_is_put c.args.time_col rows rows order (λ t. refl) in
    IfOk-weaker c.finish.result _ _ (λ b h. ap (λ (x : Block). x.rows) h ∙ ap (λ (y : Building). in_time_order y.time_col y.rows) c.loop-row.invariant ∙ ap (λ (rs : List Row). in_time_order c.args.time_col rs) (take_all c.loop-row.row-index c.as_slice-row-items.result.now c.loop-row-test.false ∙ c.as_slice-row-items.ensures.items) ∙ sym same) c.finish.ensures.block
