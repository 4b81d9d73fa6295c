use Rattle.std.proofs.Common.{IfOk, subst, sym}
use Rattle.qd_base.specs.Script.{TakesStep}
use Rattle.qd_http.specs.Steps.{https_protocol}
use Rattle.qd_pgwire.specs.Steps.{pg_protocol}
use Rattle.qd_fronts.specs.declared.front.AnyFront.{AnyFront}
use Rattle.qd_fronts.specs.Fronts.{any_protocol}
use Rattle.qd_fronts.proofs.front.AnyFrontFront.next_step.Goals as goal

pub returns-in-Http-clause-step : goal.returns-in-Http-clause-step
returns-in-Http-clause-step c =
    subst (λ (f : AnyFront). IfOk c.next_step-in-Http.result (TakesStep (any_protocol f) (https_protocol c.next_step-in-Http.new.self))) (sym c.in-Http.is) c.next_step-in-Http.ensures.step

pub returns-in-Pg-clause-step : goal.returns-in-Pg-clause-step
returns-in-Pg-clause-step c =
    subst (λ (f : AnyFront). IfOk c.next_step-in-Pg.result (TakesStep (any_protocol f) (pg_protocol c.next_step-in-Pg.new.self))) (sym c.in-Pg.is) c.next_step-in-Pg.ensures.step
