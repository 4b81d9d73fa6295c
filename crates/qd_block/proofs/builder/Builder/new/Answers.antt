use Rattle.std.proofs.Common.{◌≡◌, ◌∙◌, ap, map, arith}
use Rattle.std.proofs.lemmas.List.{take_all}
use Rattle.qd_base.specs.declared.schema.Col.{Col}
use Rattle.qd_column.specs.Cells.{no_cells}
use Rattle.qd_block.proofs.BlockLemmas.{block_begun}
use Rattle.qd_block.proofs.builder.Builder.new.Goals as goal

pub invariant_of-result : goal.invariant_of-result
invariant_of-result g c =
    let all : c.loop-col.columns.items ≡ map (λ (x : Col). no_cells x.kind) c.args.cols.now = c.loop-col.invariant ∙ ap (map (λ (x : Col). no_cells x.kind)) (take_all c.loop-col.col-index c.as_slice-col-items.result.now (omega arith) ∙ c.as_slice-col-items.ensures.items) in
    (block_begun c.args.cols.now c.args.time_col c.loop-col.columns.items all c.requires.few c.requires.designated).0

pub returns : goal.returns
returns g c =
    let all : c.loop-col.columns.items ≡ map (λ (x : Col). no_cells x.kind) c.args.cols.now = c.loop-col.invariant ∙ ap (map (λ (x : Col). no_cells x.kind)) (take_all c.loop-col.col-index c.as_slice-col-items.result.now (omega arith) ∙ c.as_slice-col-items.ensures.items) in
    record { empty = (block_begun c.args.cols.now c.args.time_col c.loop-col.columns.items all c.requires.few c.requires.designated).1 }
