use Rattle.std.proofs.Common.{◌∙◌, sym, ap}
use Rattle.qd_base.specs.Rows.{Row, cell_at, time_in}
use Rattle.qd_expr.proofs.CellLemmas.{row_found}
use Rattle.qd_expr.proofs.RunLemmas.{value-column}
use Rattle.qd_rows.specs.Sets.{row_of_place}
use Rattle.qd_query.proofs.partitions.time_at.Goals as goal

pub returns : goal.returns
returns g c =
    record {
      time =
          c.moment.ensures
          ∙ ap time_in
          (c.scalar.ensures.value ∙ value-column c.args.at (row_of_place c.args.rows.now c.places.result)
          ∙ ap (λ (r : Row). cell_at r c.args.at) (sym (row_found c.args.rows.now c.args.i c.places.result c.places.ensures.places)));
    }
