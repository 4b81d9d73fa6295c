use Rattle.std.proofs.Common.{◌≡◌, ◌∙◌, [], ℕ, ap, sym, length, get_or, arith}
use Rattle.qd_base.specs.declared.schema.ColType.TheVariants as kind
use Rattle.qd_base.specs.Database.{missing}
use Rattle.qd_base.specs.Rows.{Row}
use Rattle.qd_column.specs.Cells.{CellsOf}
use Rattle.qd_merge.specs.Merged.{with_missing}
use Rattle.qd_merge.proofs.Wide.{wide_cell, lacking_cell, cell_behind, wide_size}
use Rattle.qd_merge.proofs.cells.lent_wide.Goals as goal

pub returns-then-col-cols : goal.returns-then-col-cols
returns-then-col-cols c =
    let row : Row = get_or c.args.block.now.rows c.args.place [] in
    let size : length row ≡ length c.args.block.now.kinds = c.is_whole.ensures.whole.cells c.args.place [] c.requires.there in
    record { cell = c.lent_in.ensures.cell ∙ sym (wide_cell c.args.wide.now.kinds row c.args.col (omega (arith, c.cols.ensures.count))) }

pub returns-then-col-cols-2 : goal.returns-then-col-cols-2
returns-then-col-cols-2 c =
    let row : Row = get_or c.args.block.now.rows c.args.place [] in
    let size : length row ≡ length c.args.block.now.kinds = c.is_whole.ensures.whole.cells c.args.place [] c.requires.there in
    let kind_is = c.kind.ensures.kind ∙ ap (λ (x : CellsOf). x.kind) c.column.ensures.column in
    record { cell = c.of_missing.ensures.cell ∙ ap missing kind_is ∙ sym (lacking_cell c.args.wide.now.kinds row c.args.col kind.Time (omega (arith, c.cols.ensures.count)) (omega (arith, c.cols-2.ensures.count))) }

pub returns : goal.returns
returns c =
    let row : Row = get_or c.args.block.now.rows c.args.place [] in
    let size : length row ≡ length c.args.block.now.kinds = c.is_whole.ensures.whole.cells c.args.place [] c.requires.there in
    let wide : length (with_missing c.args.wide.now.kinds row) ≡ length c.args.wide.now.kinds = wide_size c.args.wide.now.kinds row (omega (arith, c.requires.narrow)) in
    record { cell = sym (cell_behind (with_missing c.args.wide.now.kinds row) c.args.col (omega (arith, c.cols-2.ensures.count))) }
