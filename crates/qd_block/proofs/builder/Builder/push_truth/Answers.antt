use Rattle.std.proofs.Common.{◌≡◌, ◌∙◌, ◌<◌, ap, length, get_or}
use Rattle.qd_base.specs.declared.cell.Cell.TheVariants as cell
use Rattle.qd_column.specs.Cells.{CellsOf, with_cell}
use Rattle.qd_block.specs.Blocks.{Building, with_open}
use Rattle.qd_block.proofs.BuildLemmas.{next_there, cell_added, building_still}
use Rattle.qd_block.proofs.builder.Builder.push_truth.Goals as goal

pub invariant_of-self-2 : goal.invariant_of-self-2
invariant_of-self-2 g c =
    let there_ : c.self.inside.filled < length c.self.inside.columns.items = (next_there c.self.inside.rows c.self.inside.filled c.self.inside.time_col c.self.inside.columns.items c.args.self.now _ c.self.view_is c.self.invariant c.requires.kind) in
    let added_ : c.push_truth.new.self ≡ with_cell (get_or c.self.inside.columns.items c.self.inside.filled c.index_mut.result.now) (cell.Bool c.args.value) = (c.in_ok-push_truth.ensures.ok ∙ ap (λ (column : CellsOf). with_cell column (cell.Bool c.args.value)) c.index_mut.ensures.value) in
    building_still c.self.inside.rows c.self.inside.filled c.self.inside.time_col c.self.inside.columns.items c.push_truth.new.self (cell.Bool c.args.value) c.index_mut.result.now c.self.invariant there_ added_ (λ _ h. cc)

pub returns-clause-ok : goal.returns-clause-ok
returns-clause-ok g c =
    let there_ : c.self.inside.filled < length c.self.inside.columns.items = (next_there c.self.inside.rows c.self.inside.filled c.self.inside.time_col c.self.inside.columns.items c.args.self.now _ c.self.view_is c.self.invariant c.requires.kind) in
    let added_ : c.push_truth.new.self ≡ with_cell (get_or c.self.inside.columns.items c.self.inside.filled c.index_mut.result.now) (cell.Bool c.args.value) = (c.in_ok-push_truth.ensures.ok ∙ ap (λ (column : CellsOf). with_cell column (cell.Bool c.args.value)) c.index_mut.ensures.value) in
    cell_added c.self.inside.rows c.self.inside.filled c.self.inside.time_col c.self.inside.columns.items c.push_truth.new.self (cell.Bool c.args.value) c.index_mut.result.now c.self.invariant there_ added_ ∙ ap (λ (b : Building). with_open b (cell.Bool c.args.value)) c.self.view_is
