use Rattle.std.proofs.Common.{◌∙◌, Option, ap}
use Rattle.qd_meaning.specs.declared.refusal.Refusal.{Refusal}
use Rattle.qd_meaning.specs.Planned as parts
use Rattle.qd_meaning.specs.Refusals.{least, sooner}
use Rattle.qd_plan.proofs.PlanLemmas.{is_planned}
use Rattle.qd_plan.proofs.stmt.planned.Goals as goal

pub returns : goal.returns
returns c =
    let p : parts.Planned = parts.planned c.args.schemas.now c.args.query.now in
    record {
      answers =
          is_planned p _ c.ask.new.faults.first c.judged.result c.in_ok-made.ensures.plan
          (c.in_ok-made.ensures.faults ∙ ap (λ (o : Option Refusal). sooner o (least p.faults)) c.none-faults.ensures.none) c.judged.ensures.judged;
    }
