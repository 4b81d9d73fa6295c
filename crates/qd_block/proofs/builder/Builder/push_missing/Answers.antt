use Rattle.std.proofs.Common.{◌≡◌, ◌∙◌, ◌<◌, ap, sym, length, get_or, arith}
use Rattle.std.proofs.lemmas.List.{length-map}
use Rattle.qd_base.specs.declared.schema.ColType.{ColType}
use Rattle.qd_base.specs.declared.schema.ColType.TheVariants as kind
use Rattle.qd_base.specs.Database.{missing}
use Rattle.qd_column.specs.Cells.{CellsOf, with_cell}
use Rattle.qd_block.specs.Blocks.{Building, with_open}
use Rattle.qd_block.proofs.RowLemmas.{kind_at}
use Rattle.qd_block.proofs.BuildLemmas.{next_col, cell_added, building_still}
use Rattle.qd_block.proofs.builder.Builder.push_missing.Goals as goal

pub invariant_of-self-2 : goal.invariant_of-self-2
invariant_of-self-2 g c =
    let next_ : length c.args.self.now.open_row ≡ c.self.inside.filled = (ap (λ (b : Building). length b.open_row) (sym c.self.view_is) ∙ next_col c.self.inside.rows c.self.inside.filled c.self.inside.time_col c.self.inside.columns.items c.self.invariant) in
    let there_ : c.self.inside.filled < length c.self.inside.columns.items = (omega (arith, next_, c.requires.there, ap (λ (b : Building). length b.kinds) c.self.view_is, length-map c.self.inside.columns.items (λ (c : CellsOf). c.kind))) in
    let added_ : c.push_missing.new.self ≡ with_cell (get_or c.self.inside.columns.items c.self.inside.filled c.index_mut.result.now) (missing c.index_mut.result.now.kind) = (c.in_ok-push_missing.ensures.ok ∙ ap (λ (column : CellsOf). with_cell column (missing c.index_mut.result.now.kind)) c.index_mut.ensures.value) in
    building_still c.self.inside.rows c.self.inside.filled c.self.inside.time_col c.self.inside.columns.items c.push_missing.new.self (missing c.index_mut.result.now.kind) c.index_mut.result.now c.self.invariant there_ added_ (λ e h. c.requires.timed (next_ ∙ e ∙ ap (λ (b : Building). b.time_col) c.self.view_is))

pub returns-clause-ok : goal.returns-clause-ok
returns-clause-ok g c =
    let next_ : length c.args.self.now.open_row ≡ c.self.inside.filled = (ap (λ (b : Building). length b.open_row) (sym c.self.view_is) ∙ next_col c.self.inside.rows c.self.inside.filled c.self.inside.time_col c.self.inside.columns.items c.self.invariant) in
    let there_ : c.self.inside.filled < length c.self.inside.columns.items = (omega (arith, next_, c.requires.there, ap (λ (b : Building). length b.kinds) c.self.view_is, length-map c.self.inside.columns.items (λ (c : CellsOf). c.kind))) in
    let added_ : c.push_missing.new.self ≡ with_cell (get_or c.self.inside.columns.items c.self.inside.filled c.index_mut.result.now) (missing c.index_mut.result.now.kind) = (c.in_ok-push_missing.ensures.ok ∙ ap (λ (column : CellsOf). with_cell column (missing c.index_mut.result.now.kind)) c.index_mut.ensures.value) in
    let x = missing c.index_mut.result.now.kind in
    let at : c.index_mut.result.now.kind ≡ get_or c.args.self.now.kinds (length c.args.self.now.open_row) kind.Long = ap (λ (column : CellsOf). column.kind) c.index_mut.ensures.value ∙ sym (kind_at c.self.inside.columns.items c.self.inside.filled c.index_mut.result.now kind.Long there_) ∙ ap (λ (b : Building). get_or b.kinds c.self.inside.filled kind.Long) c.self.view_is ∙ ap (λ k. get_or c.args.self.now.kinds k kind.Long) (sym next_) in
    cell_added c.self.inside.rows c.self.inside.filled c.self.inside.time_col c.self.inside.columns.items c.push_missing.new.self x c.index_mut.result.now c.self.invariant there_ added_ ∙ ap (λ (b : Building). with_open b x) c.self.view_is ∙ ap (λ (k : ColType). with_open c.args.self.now (missing k)) at
