use Rattle.std.proofs.Common.{◌∙◌, Option, sym, ap, ap₂}
use Rattle.qd_bind.specs.declared.typed.Typed as bound
use Rattle.qd_bind.specs.Scoped.{scope}
use Rattle.qd_bind.proofs.PartLemmas.{least-append}
use Rattle.qd_meaning.specs.declared.refusal.Refusal.{Refusal}
use Rattle.qd_meaning.specs.Binding as binding
use Rattle.qd_meaning.specs.Items.{agg_faults}
use Rattle.qd_meaning.specs.Refusals.{sooner}
use Rattle.qd_meaning.specs.Typing as typing
use Rattle.qd_plan.proofs.QueryLemmas.{ok_each, on_any}
use Rattle.qd_plan.proofs.items.aggregate_of.Goals as goal

pub returns : goal.returns
returns c =
    let before : Option Refusal = c.args.faults.now.first in
    let t : typing.Typed = binding.typed (scope c.args.columns.now) c.args.e.now in
    let is = c.in_ok-x.ensures.bound in
    let fault =
    c.sooner-fault.ensures.least
    ∙ ap₂ sooner (c.agg_fault.ensures.least t (ap (λ (x : bound.Typed). x.class) is)) (ap (λ (x : bound.Typed). x.fault) is)
    ∙ sym (least-append (agg_faults c.args.of c.args.word t) t.faults) in
    record {
      item = ok_each c.aggregate.result _ _ (λ made h. h t c.args.word is) c.aggregate.ensures.item;
      faults = on_any c.aggregate.result _ (c.add.ensures.added ∙ ap (sooner before) fault);
    }
