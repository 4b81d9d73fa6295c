use Rattle.std.proofs.lemmas.Result.{IfOk-weaker}
use Rattle.qd_group.proofs.Assembly.{values_grouped}
use Rattle.qd_group.proofs.classes.grouped_by_keys.Goals as goal

pub returns : goal.returns
returns g c =
    record { groups = IfOk-weaker c.numbered.result _ _ (λ v h. values_grouped c.args.key.now c.args.rows.now c.in_ok-keys.keys.items c.as_slice.result.now v.numbers.items v.firsts.items c.as_slice.ensures.value c.in_ok-keys.ensures.keys h) c.numbered.ensures.groups }
