use Rattle.std.proofs.Common.{◌∙◌, List, slice_range, ap, sym}
use Rattle.qd_base.specs.declared.cell.Cell.{Cell}
use Rattle.qd_column.specs.Cells.{time_cell}
use Rattle.qd_column.proofs.ListLemmas.{map-part}
use Rattle.qd_sample.proofs.times.part_of_moments.Goals as goal

pub returns-in-Time : goal.returns-in-Time
returns-in-Time g c = record {
  moments = map-part time_cell c.times.result.now c.args.from c.args.to
      ∙ ap (λ (cells : List Cell). slice_range cells c.args.from c.args.to) (sym c.times.ensures.cells);
}
