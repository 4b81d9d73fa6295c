use Rattle.std.proofs.Common.{◌≡◌, ◌∙◌, ◌<◌, ◌++◌, ◌∷◌, [], List, ℕ, ap, ap₂, sym, subst, map, length, get_or, arith}
use Rattle.std.specs.List.{range_with_len}
use Rattle.std.proofs.lemmas.List.FromFn.{map-range_with_len_more}
use Rattle.qd_column.specs.Cells.{CellsOf}
use Rattle.qd_block.specs.Blocks.{Block, column_in, block_of, IsBlock}
use Rattle.qd_merge.specs.Merged.{laid_rows}
use Rattle.qd_merge.proofs.Splices.{block_made, columns_filled, rows_counted, designated_within}
use Rattle.qd_merge.proofs.merge.spliced_block.Goals as goal

pub loop-col-preserved : goal.loop-col-preserved
loop-col-preserved c =
    let made : Block = record c.args.batch.now { rows = laid_rows c.args.old.now c.args.batch.now c.args.runs.now } in
    let col : ℕ = c.loop-col.col in
    c.in_ok-push.ensures.items ∙ ap₂ (λ (l : List CellsOf) (x : CellsOf). l ++ x ∷ []) c.loop-col.invariant c.in_ok-spliced_column.ensures.column ∙ sym (map-range_with_len_more (column_in made) 0 col col (omega arith))

pub index-requires : goal.index-requires
index-requires c =
    let made : Block = record c.args.batch.now { rows = laid_rows c.args.old.now c.args.batch.now c.args.runs.now } in
    let size : length c.loop-col.columns.items ≡ c.loop-col.col = columns_filled made c.loop-col.columns.items c.loop-col.col c.loop-col.invariant in
    let low : c.args.batch.now.time_col < length c.args.batch.now.kinds = designated_within c.args.batch.now c.is_whole-2.ensures.whole in
    omega (arith, c.cols-col-end.ensures.count, c.time_col.ensures.position, c.loop-col.columns.ok.0)

pub of_columns-requires : goal.of_columns-requires
of_columns-requires c =
    let old = c.args.old.now in
    let batch = c.args.batch.now in
    let runs = c.args.runs.now in
    let made : Block = record batch { rows = laid_rows old batch runs } in
    let columns : List CellsOf = c.loop-col.columns.items in
    let end : c.loop-col.col ≡ length batch.kinds = omega (arith, c.cols-col-end.ensures.count) in
    let filled : columns ≡ map (column_in made) (range_with_len 0 (length batch.kinds)) = c.loop-col.invariant ∙ ap (λ n. map (column_in made) (range_with_len 0 n)) end in
    let x : CellsOf = c.index.result.now in
    let at : x ≡ get_or columns batch.time_col x = c.index.ensures ∙ ap (λ k. get_or columns k x) c.time_col.ensures.position in
    let size : c.len-rows.result ≡ length made.rows = rows_counted made columns batch.time_col x x c.len-rows.result filled (designated_within batch c.is_whole-2.ensures.whole) at c.len-rows.ensures.count in
    let laid = block_made old batch runs columns c.len-rows.result c.is_whole.ensures.whole c.is_whole-2.ensures.whole c.requires.time_col c.requires.kinds c.requires.order filled size in
    record { block = subst (λ (t : ℕ). IsBlock c.len-rows.result t columns) (sym c.time_col-2.ensures.position) laid.0 }

pub returns : goal.returns
returns c =
    let old = c.args.old.now in
    let batch = c.args.batch.now in
    let runs = c.args.runs.now in
    let made : Block = record batch { rows = laid_rows old batch runs } in
    let columns : List CellsOf = c.loop-col.columns.items in
    let end : c.loop-col.col ≡ length batch.kinds = omega (arith, c.cols-col-end.ensures.count) in
    let filled : columns ≡ map (column_in made) (range_with_len 0 (length batch.kinds)) = c.loop-col.invariant ∙ ap (λ n. map (column_in made) (range_with_len 0 n)) end in
    let x : CellsOf = c.index.result.now in
    let at : x ≡ get_or columns batch.time_col x = c.index.ensures ∙ ap (λ k. get_or columns k x) c.time_col.ensures.position in
    let size : c.len-rows.result ≡ length made.rows = rows_counted made columns batch.time_col x x c.len-rows.result filled (designated_within batch c.is_whole-2.ensures.whole) at c.len-rows.ensures.count in
    let laid = block_made old batch runs columns c.len-rows.result c.is_whole.ensures.whole c.is_whole-2.ensures.whole c.requires.time_col c.requires.kinds c.requires.order filled size in
    record { block = c.of_columns.ensures.block ∙ ap (λ t. block_of c.len-rows.result t columns) c.time_col-2.ensures.position ∙ laid.1 }
