use Rattle.std.proofs.Common.{◌∙◌, Option, ap}
use Rattle.qd_bind.specs.declared.typed.Typed as bound
use Rattle.qd_bind.specs.Scoped.{scope}
use Rattle.qd_meaning.specs.declared.refusal.Refusal.{Refusal}
use Rattle.qd_meaning.specs.Binding as binding
use Rattle.qd_meaning.specs.Refusals.{sooner}
use Rattle.qd_plan.proofs.QueryLemmas.{ok_each, on_any}
use Rattle.qd_plan.proofs.items.value_of.Goals as goal

pub returns : goal.returns
returns c =
    let before : Option Refusal = c.args.faults.now.first in
    record {
      item = ok_each c.value.result _ _ (λ made h. h (binding.typed (scope c.args.columns.now) c.args.e.now) c.in_ok-x.ensures.bound) c.value.ensures.item;
      faults = on_any c.value.result _ (c.add.ensures.added ∙ ap (λ (x : bound.Typed). sooner before x.fault) c.in_ok-x.ensures.bound);
    }
