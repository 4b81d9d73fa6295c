use Rattle.std.proofs.Common.{◌∙◌, List, slice_range, ap, sym}
use Rattle.qd_base.specs.declared.cell.Cell.{Cell}
use Rattle.qd_column.specs.Cells.{long_cell}
use Rattle.qd_column.proofs.ListLemmas.{map-part}
use Rattle.qd_group.proofs.longs.part_of_longs.Goals as goal

pub returns-in-Long : goal.returns-in-Long
returns-in-Long g c =
    record {
      numbers = map-part long_cell c.longs.result.now c.args.from c.args.to
          ∙ ap (λ (cells : List Cell). slice_range cells c.args.from c.args.to) (sym c.longs.ensures.cells);
    }
