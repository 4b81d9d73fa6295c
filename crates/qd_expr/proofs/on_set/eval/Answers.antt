use Rattle.std.proofs.Common.{◌∙◌, ap, sym}
use Rattle.std.proofs.lemmas.Result.{IfOk-weaker}
use Rattle.qd_value.specs.Value.{value}
use Rattle.qd_expr.proofs.CellLemmas.{row_found}
use Rattle.qd_expr.proofs.on_set.eval.Goals as goal

pub returns : goal.returns
returns g c =
    record {
      value = IfOk-weaker c.to_cell.result _ _ (λ x h. h ∙ c.scalar.ensures.value ∙ ap (value c.args.expr.now) (sym (row_found c.args.rows.now c.args.i c.places.result c.places.ensures.places))) c.to_cell.ensures.same;
    }
