use Rattle.std.proofs.Common.{◌∙◌, ap, sym}
use Rattle.qd_value.specs.Cells.{is_true}
use Rattle.qd_value.specs.Value.{value}
use Rattle.qd_expr.proofs.CellLemmas.{row_found}
use Rattle.qd_expr.proofs.on_set.test.Goals as goal

pub returns : goal.returns
returns g c =
    record {
      truth = c.is_true.ensures.truth ∙ ap is_true (c.scalar.ensures.value ∙ ap (value c.args.expr.now) (sym (row_found c.args.rows.now c.args.i c.places.result c.places.ensures.places)));
    }
