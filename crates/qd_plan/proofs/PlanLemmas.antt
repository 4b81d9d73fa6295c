-- The parts of a query and its refusals give its plan, or the refusal that is answered.
use Rattle.std.proofs.Common.{◌≡◌, List, [], ◌∷◌, Option, Some, None, Result, refl, sym, subst}
use Rattle.qd_meaning.specs.declared.parts.AskPlan.{AskPlan}
use Rattle.qd_meaning.specs.declared.refusal.Refusal.{Refusal}
use Rattle.qd_meaning.specs.Planned as parts
use Rattle.qd_meaning.specs.Refusals.{least, sooner}
use Rattle.qd_plan.specs.declared.asked.Plan.{Plan}
use Rattle.qd_plan.specs.declared.fault.PlanFault.{PlanFault}
use Rattle.qd_plan.specs.Plans.{PlannedQuery}
use Rattle.qd_plan.specs.Shaping.{judged}

none_least : (rs : List Refusal) → None ≡ least rs → rs ≡ []
none_least [] e = refl
none_least (r ∷ rs) e = absurd (cc)

pub is_planned : (p : parts.Planned) (made : AskPlan) (first : Option Refusal) (r : Result Plan PlanFault) → made ≡ p.plan → first ≡ sooner None (least p.faults) → r ≡ judged made first → PlannedQuery p r
is_planned p made None r e f h = subst (PlannedQuery p) (sym h) (none_least p.faults f, e)
is_planned p made (Some x) r e f h = subst (PlannedQuery p) (sym h) (sym f)
