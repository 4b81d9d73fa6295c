use Rattle.std.proofs.Common.{◌∙◌, ℕ, Option, unwrap_or, ap, ap₂}
use Rattle.qd_base.specs.declared.schema.ColType.{ColType}
use Rattle.qd_meaning.specs.declared.refusal.Refusal.{Refusal}
use Rattle.qd_meaning.specs.Refusals.{least, sooner}
use Rattle.qd_meaning.specs.Planned as parts
use Rattle.qd_plan.proofs.tables.join_key.Goals as goal

pub returns : goal.returns
returns c =
    let before : Option Refusal = c.args.faults.now.first in
    record {
      left = c.in_ok-left_at.ensures.same ∙ c.or_first.ensures.position ∙ ap (λ (o : Option ℕ). unwrap_or o 0) c.column-one.ensures.position;
      right = c.in_ok-right_at.ensures.same ∙ c.or_first-2.ensures.position ∙ ap (λ (o : Option ℕ). unwrap_or o 0) c.column-other.ensures.position;
      faults =
          c.judge_key.ensures.faults
          ∙ ap₂ (λ (a b : Option ColType). sooner before (least (parts.key_faults c.args.name.now a b))) c.column-one.ensures.kind c.column-other.ensures.kind;
    }
