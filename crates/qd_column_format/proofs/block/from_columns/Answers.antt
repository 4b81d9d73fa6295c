use Rattle.std.proofs.Common.{◌≡◌, ◌∙◌, ℕ, List, Some, refl, ap, sym, subst, length, map, All, arith, slice_get}
use Rattle.std.proofs.lemmas.List.{length-map}
use Rattle.qd_base.specs.declared.cell.Cell.{Cell}
use Rattle.qd_base.specs.declared.schema.ColType.TheVariants as kind
use Rattle.qd_column.specs.Cells.{CellsOf, time_cell}
use Rattle.qd_block.specs.Blocks.{kinds_of, block_of}
use Rattle.qd_column_format.specs.Unsorted.{times_in, AreSorted, IsFirstUnsorted}
use Rattle.qd_column_format.proofs.BlockLemmas.{columns_are_block, times_read}
use Rattle.qd_column_format.proofs.block.from_columns.Goals as goal

pub of_columns-requires : goal.of_columns-requires
of_columns-requires g c =
    let t = c.args.time_col in
    let columns = c.columns.inside.items.items in
    let view : columns ≡ c.args.columns = c.columns.view_is in
    let times = c.times-times.result.now in
    let designated : slice_get (kinds_of columns) t ≡ Some kind.Time = ap (λ (cs : List CellsOf). slice_get (kinds_of cs) t) view ∙ c.requires.designated in
    let are : times_in t columns ≡ map time_cell times = times_read t columns c.index.result.now times designated c.index.ensures c.times-times.ensures.cells in
    record {
      block = columns_are_block (length times) t columns times (sym (ap length are ∙ length-map times time_cell)) (omega (arith, c.requires.few, ap length view)) designated (subst (λ (cs : List CellsOf). All (λ (x : CellsOf). length x.cells ≡ length (times_in t cs)) cs) (sym view) c.requires.even) are c.in-None.ensures.none c.in-None.ensures.rises;
    }

pub returns-in-Some-clause-unsorted : goal.returns-in-Some-clause-unsorted
returns-in-Some-clause-unsorted g c =
    let t = c.args.time_col in
    let columns = c.columns.inside.items.items in
    let view : columns ≡ c.args.columns = c.columns.view_is in
    let times = c.times-times.result.now in
    let designated : slice_get (kinds_of columns) t ≡ Some kind.Time = ap (λ (cs : List CellsOf). slice_get (kinds_of cs) t) view ∙ c.requires.designated in
    let are : times_in t columns ≡ map time_cell times = times_read t columns c.index.result.now times designated c.index.ensures c.times-times.ensures.cells in
    let all : times_in t c.args.columns ≡ map time_cell times = ap (times_in t) (sym view) ∙ are in
    (c.in-Some.row, refl, subst (λ (l : List Cell). IsFirstUnsorted l c.in-Some.row) (sym all) c.in-Some.ensures.some)

pub returns-in-None-clause-block : goal.returns-in-None-clause-block
returns-in-None-clause-block g c =
    let t = c.args.time_col in
    let columns = c.columns.inside.items.items in
    let view : columns ≡ c.args.columns = c.columns.view_is in
    let times = c.times-times.result.now in
    let designated : slice_get (kinds_of columns) t ≡ Some kind.Time = ap (λ (cs : List CellsOf). slice_get (kinds_of cs) t) view ∙ c.requires.designated in
    let are : times_in t columns ≡ map time_cell times = times_read t columns c.index.result.now times designated c.index.ensures c.times-times.ensures.cells in
    c.of_columns.ensures.block ∙ ap (λ (n : ℕ). block_of n t columns) (sym (ap length are ∙ length-map times time_cell)) ∙ ap (λ (cs : List CellsOf). block_of (length (times_in t cs)) t cs) view

pub returns-in-None-clause-sorted : goal.returns-in-None-clause-sorted
returns-in-None-clause-sorted g c =
    let t = c.args.time_col in
    let columns = c.columns.inside.items.items in
    let view : columns ≡ c.args.columns = c.columns.view_is in
    let times = c.times-times.result.now in
    let designated : slice_get (kinds_of columns) t ≡ Some kind.Time = ap (λ (cs : List CellsOf). slice_get (kinds_of cs) t) view ∙ c.requires.designated in
    let are : times_in t columns ≡ map time_cell times = times_read t columns c.index.result.now times designated c.index.ensures c.times-times.ensures.cells in
    let all : times_in t c.args.columns ≡ map time_cell times = ap (times_in t) (sym view) ∙ are in
    subst AreSorted (sym all) c.in-None.ensures.none
