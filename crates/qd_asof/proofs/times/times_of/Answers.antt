use Rattle.std.proofs.Common.{◌≡◌, ◌∙◌, ap}
use Rattle.std.proofs.lemmas.Result.{IfOk-weaker}
use Rattle.qd_base.specs.Rows.{Row, time_in, time_of}
use Rattle.qd_expr.proofs.RunLemmas.{value-column}
use Rattle.qd_rows.specs.Sets.{rows_in}
use Rattle.qd_value.specs.declared.bound.Bound.TheVariants as bound
use Rattle.qd_value.specs.Value.{value}
use Rattle.qd_keys.proofs.KeyLemmas.{map_like}
use Rattle.qd_asof.proofs.times.times_of.Goals as goal

pub returns : goal.returns
returns g c =
    record {
      times = IfOk-weaker c.times_by.result _ _
          (λ v h. h ∙ map_like (λ (r : Row). time_in (value (bound.Column c.args.at) r)) (time_of c.args.at) (rows_in c.args.rows.now) (λ r. ap time_in (value-column c.args.at r))) c.times_by.ensures.times;
    }
