use Rattle.std.proofs.Common.{◌≡◌, ◌+◌, ◌<◌, ◌≤◌, ◌∙◌, length, arith, ap, sym, subst}
use Rattle.std.specs.Arc.{arc_value}
use Rattle.qd_block.specs.Blocks.{Block, column_in, IsWhole}
use Rattle.qd_column.specs.Cells.{CellsOf}
use Rattle.qd_expr.proofs.CellLemmas.{block_found}
use Rattle.qd_rows.specs.Sets.{block_at}
use Rattle.qd_latest.specs.Walks.{cell_in}
use Rattle.qd_latest.proofs.PartLemmas.{kind_there, part_lacking, part_present, part_within}
use Rattle.qd_latest.proofs.parts.symbols_of.Given as given
use Rattle.qd_latest.proofs.parts.symbols_of.Goals as goal

-- the block is the part's
here : (g : given.Over) (c : goal.After-column g) → arc_value c.block-block.result.now ≡ block_at c.args.rows.now.blocks c.args.part.block
here g c = sym (block_found c.args.rows.now.blocks c.args.part.block (arc_value c.block-block.result.now) c.block-block.ensures.block)

low : (g : given.Over) (c : goal.After-column g) → c.args.at < length (block_at c.args.rows.now.blocks c.args.part.block).kinds
low g c = let e = c.cols.ensures.count ∙ ap (λ (b : Block). length b.kinds) (c.deref-2.ensures ∙ here g c) in omega (arith, e)

is : (g : given.Over) (c : goal.After-column g) → c.column.result.now ≡ column_in (block_at c.args.rows.now.blocks c.args.part.block) c.args.at
is g c = c.column.ensures.column ∙ ap (λ (b : Block). column_in b c.args.at) (c.deref-then-at-cols.ensures ∙ here g c)

pub returns-then-at-cols-clause-column : goal.returns-then-at-cols-clause-column
returns-then-at-cols-clause-column g c = is g c

pub returns-then-at-cols-clause-kind : goal.returns-then-at-cols-clause-kind
returns-then-at-cols-clause-kind g c = ap (λ (k : CellsOf). k.kind) (is g c) ∙ kind_there c.args.rows.now c.args.at c.args.part.block c.requires.part.run.kinds c.requires.symbols (low g c)

pub returns-then-at-cols-clause-there : goal.returns-then-at-cols-clause-there
returns-then-at-cols-clause-there g c = low g c

pub returns-then-at-cols-clause-within : goal.returns-then-at-cols-clause-within
returns-then-at-cols-clause-within g c = subst (λ (k : CellsOf). c.args.part.to ≤ length k.cells) (sym (is g c)) (part_within c.args.rows.now c.args.part c.args.at c.requires.part)

pub returns-then-at-cols-clause-cells : goal.returns-then-at-cols-clause-cells
returns-then-at-cols-clause-cells g c = λ k less.
    part_present c.args.rows.now c.args.part c.args.at c.requires.part (subst IsWhole (c.deref.ensures ∙ here g c) c.is_whole.ensures.whole) (low g c) k less
    ∙ ap (λ (x : CellsOf). cell_in x.cells (c.args.part.from + k)) (sym (is g c))

pub returns-clause-lacking : goal.returns-clause-lacking
returns-clause-lacking g c =
    let same : arc_value c.block-block.result.now ≡ block_at c.args.rows.now.blocks c.args.part.block = sym (block_found c.args.rows.now.blocks c.args.part.block (arc_value c.block-block.result.now) c.block-block.ensures.block) in
    let e = c.cols.ensures.count ∙ ap (λ (b : Block). length b.kinds) (c.deref-2.ensures ∙ same) in
    part_lacking c.args.rows.now c.args.part c.args.at c.requires.part (subst IsWhole (c.deref.ensures ∙ same) c.is_whole.ensures.whole) c.requires.symbols (omega (arith, e))
