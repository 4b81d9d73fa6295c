use Rattle.std.proofs.Common.{◌≡◌, ◌∙◌, Bool, List, map, slice_range, ap, sym}
use Rattle.qd_base.specs.declared.cell.Cell.{Cell}
use Rattle.qd_base.specs.declared.cell.Cell.TheVariants as cell
use Rattle.qd_column.specs.Cells.{time_cell}
use Rattle.qd_value.specs.Cells as spec
use Rattle.qd_expr.proofs.ListLemmas.{part_image}
use Rattle.qd_expr.proofs.columns.within.Goals as goal

pub returns-in_ok-times_within-in-Time : goal.returns-in_ok-times_within-in-Time
returns-in_ok-times_within-in-Time g c =
    let test : Cell → Bool = λ x. spec.is_within c.args.lo c.args.hi x in
    record {
      truths = c.in_ok-times_within-in-Time.ensures.truths ∙ part_image test time_cell c.times.result.now c.args.from c.args.to
          ∙ ap (λ (cells : List Cell). map test (slice_range cells c.args.from c.args.to)) (sym c.times.ensures.cells);
    }
