use Rattle.std.proofs.Common.{◌≡◌, ◌∙◌, ◌<◌, length, List, slice_range, arith, sym}
use Rattle.qd_base.specs.declared.cell.Cell.{Cell}
use Rattle.qd_value.specs.Scalars.{cell_of}
use Rattle.qd_expr.proofs.LiteralLemmas.{no_literal, literal_more}
use Rattle.qd_expr.proofs.columns.among_by_literal.Goals as goal

pub loop-literal-init : goal.loop-literal-init
loop-literal-init g c = c.in_ok-found.ensures.items_if_clones_equal (λ y e. e) ∙ no_literal c.args.column.now.cells c.args.from c.args.to c.requires.ordered c.requires.within

pub loop-literal-preserved : goal.loop-literal-preserved
loop-literal-preserved g c =
    let cells : List Cell = slice_range c.args.column.now.cells c.args.from c.args.to in
    let low : c.loop-literal.literal-index < length c.args.literals.now = omega arith in
    literal_more cells c.args.literals.now c.loop-literal.literal-index c.literal-item.result (cell_of c.of-wanted.result) c.as_slice.result.now c.as_slice-in-loop-literal.result.now c.in_ok-found-2.found.items low (sym c.literal-item.is) c.of-wanted.ensures.same
    (c.as_slice.ensures.value ∙ c.loop-literal.invariant) (c.as_slice-in-loop-literal.ensures.value ∙ c.in_ok-more.ensures.truths) c.in_ok-found-2.ensures.truths
