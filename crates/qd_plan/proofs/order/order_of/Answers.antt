use Rattle.std.proofs.Common.{◌∙◌, List, ap}
use Rattle.std.specs.List.{flat_map}
use Rattle.qd_base.specs.declared.schema.Col.{Col}
use Rattle.qd_sql_ast.specs.declared.tree.OrderKey.{OrderKey}
use Rattle.qd_meaning.specs.Refusals.{least, sooner}
use Rattle.qd_plan.specs.Ordering.{key_faults}
use Rattle.qd_plan.proofs.QueryLemmas.{on_same}
use Rattle.qd_plan.proofs.order.order_of.Goals as goal

pub returns-clause-faults : goal.returns-clause-faults
returns-clause-faults c =
    let out : List Col = c.args.out.now in
    on_same c.order_by.result _ _ (λ h. h ∙ ap (λ (ks : List OrderKey). sooner c.args.faults.now.first (least (flat_map (key_faults out) ks))) c.keys_in.ensures.keys)
    c.order_by.ensures.faults
