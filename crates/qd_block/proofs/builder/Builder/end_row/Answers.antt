use Rattle.std.proofs.Common.{◌≡◌, ◌∙◌, ◌+◌, ◌<◌, ap, sym, length, arith}
use Rattle.std.proofs.lemmas.List.{length-map}
use Rattle.qd_column.specs.Cells.{CellsOf}
use Rattle.qd_block.specs.Blocks.{Building, kinds_of}
use Rattle.qd_block.proofs.RowLemmas.{got_there}
use Rattle.qd_block.proofs.BuildLemmas.{next_col, row_ended}
use Rattle.qd_block.proofs.builder.Builder.end_row.Goals as goal

pub invariant_of-self : goal.invariant_of-self
invariant_of-self g c =
    let count_ : c.len-self-inside.result ≡ c.self.inside.rows + 1 = (let columns = c.self.inside.columns.items in
    let kinds = length-map columns (λ (c : CellsOf). c.kind) in
    let full : c.self.inside.filled ≡ length columns = sym (next_col c.self.inside.rows c.self.inside.filled c.self.inside.time_col columns c.self.invariant) ∙ ap (λ (b : Building). length b.open_row) c.self.view_is ∙ c.requires.whole ∙ ap (λ (b : Building). length b.kinds) (sym c.self.view_is) ∙ kinds in
    let there : c.self.inside.time_col < length columns = omega (arith, got_there (kinds_of columns) c.self.inside.time_col _ c.self.invariant.designated, kinds) in
    c.len-self-inside.ensures.count ∙ ap (λ (column : CellsOf). length column.cells) c.index.ensures ∙ c.self.invariant.begun c.self.inside.time_col c.index.result.now (omega arith)) in
    (row_ended c.self.inside.rows c.len-self-inside.result c.self.inside.filled c.self.inside.time_col c.self.inside.columns.items c.args.self.now c.self.invariant c.self.view_is c.requires.whole count_).0

pub returns : goal.returns
returns g c =
    let count_ : c.len-self-inside.result ≡ c.self.inside.rows + 1 = (let columns = c.self.inside.columns.items in
    let kinds = length-map columns (λ (c : CellsOf). c.kind) in
    let full : c.self.inside.filled ≡ length columns = sym (next_col c.self.inside.rows c.self.inside.filled c.self.inside.time_col columns c.self.invariant) ∙ ap (λ (b : Building). length b.open_row) c.self.view_is ∙ c.requires.whole ∙ ap (λ (b : Building). length b.kinds) (sym c.self.view_is) ∙ kinds in
    let there : c.self.inside.time_col < length columns = omega (arith, got_there (kinds_of columns) c.self.inside.time_col _ c.self.invariant.designated, kinds) in
    c.len-self-inside.ensures.count ∙ ap (λ (column : CellsOf). length column.cells) c.index.ensures ∙ c.self.invariant.begun c.self.inside.time_col c.index.result.now (omega arith)) in
    record { added = (row_ended c.self.inside.rows c.len-self-inside.result c.self.inside.filled c.self.inside.time_col c.self.inside.columns.items c.args.self.now c.self.invariant c.self.view_is c.requires.whole count_).1 }
