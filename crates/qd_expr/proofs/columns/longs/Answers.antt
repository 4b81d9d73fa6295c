use Rattle.std.proofs.Common.{◌≡◌, ◌∙◌, List, map, slice_range, ap, sym}
use Rattle.qd_base.specs.declared.cell.Cell.{Cell}
use Rattle.qd_column.specs.Cells.{long_cell}
use Rattle.qd_column.proofs.ListLemmas.{map-part}
use Rattle.qd_expr.proofs.columns.longs.Goals as goal

pub returns-in_ok-from_slice-in-Long : goal.returns-in_ok-from_slice-in-Long
returns-in_ok-from_slice-in-Long g c =
    record {
      numbers = ap (map long_cell) c.in_ok-from_slice-in-Long.ensures.items ∙ map-part long_cell c.longs.result.now c.args.from c.args.to
          ∙ ap (λ (cells : List Cell). slice_range cells c.args.from c.args.to) (sym c.longs.ensures.cells);
    }
