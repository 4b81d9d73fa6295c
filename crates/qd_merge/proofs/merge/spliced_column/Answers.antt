use Rattle.std.proofs.Common.{◌≡◌, ◌∙◌, ◌<◌, ◌≤◌, ℕ, ap₂, length, arith}
use Rattle.std.proofs.lemmas.Result.{IfOk-weaker}
use Rattle.qd_column.specs.Cells.{CellsOf}
use Rattle.qd_merge.proofs.Splices.{cells_laid, column_laid, column_lacking, lacking_is, lacking_of}
use Rattle.qd_merge.proofs.merge.spliced_column.Goals as goal

pub returns-then-col-cols : goal.returns-then-col-cols
returns-then-col-cols c =
    let old = c.args.old.now in
    let batch = c.args.batch.now in
    let runs = c.args.runs.now in
    let col : ℕ = c.args.col in
    let there : col < length old.kinds = omega (arith, c.cols.ensures.count) in
    record {
      column = IfOk-weaker c.spliced.result _ _ (λ x h. h ∙ ap₂ (λ (f s : CellsOf). cells_laid f s runs) c.column.ensures.column c.column-then-col-cols.ensures.column ∙ column_laid old batch runs col c.is_whole.ensures.whole c.requires.kinds there) c.spliced.ensures.cells;
    }

pub returns : goal.returns
returns c =
    let old = c.args.old.now in
    let batch = c.args.batch.now in
    let runs = c.args.runs.now in
    let col : ℕ = c.args.col in
    let low : length old.kinds ≤ col = omega (arith, c.cols.ensures.count) in
    let first : c.in_ok-lacking.lacking ≡ lacking_of old batch col = lacking_is old batch col c.rows.result c.kind.result c.column-2.result.now c.in_ok-lacking.lacking c.kind.ensures.kind c.column-2.ensures.column c.rows.ensures.count c.in_ok-lacking.ensures.cells in
    record {
      column = IfOk-weaker c.spliced-2.result _ _ (λ x h. h ∙ ap₂ (λ (f s : CellsOf). cells_laid f s runs) first c.column-3.ensures.column ∙ column_lacking old batch runs col c.is_whole.ensures.whole low c.requires.there) c.spliced-2.ensures.cells;
    }
