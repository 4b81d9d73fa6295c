use Rattle.std.proofs.Common.{subst}
use Rattle.qd_pgwire.specs.Steps.{Pgs, TakesPg}
use Rattle.qd_pgwire.specs.Reading.{pgs_of}
use Rattle.qd_pgwire.proofs.TurnLemmas.{only_short, only_whole, only_wrong, takes_step, total_kept}
use Rattle.qd_pgwire.proofs.front.PgFrontFront.next_step.Goals as goal

pub returns-clause-exact : goal.returns-clause-exact
returns-clause-exact c = subst (λ (f : Pgs). TakesPg f (pgs_of c.next_step.new.self) c.in_ok-step.step) c.self.view_is c.in_ok-step.ensures.exact

pub returns-clause-whole : goal.returns-clause-whole
returns-clause-whole c =
    only_whole c.args.self.now (pgs_of c.next_step.new.self) c.in_ok-step.step
    (subst (λ (f : Pgs). TakesPg f (pgs_of c.next_step.new.self) c.in_ok-step.step) c.self.view_is c.in_ok-step.ensures.exact)

pub returns-clause-unfinished : goal.returns-clause-unfinished
returns-clause-unfinished c =
    only_short c.args.self.now (pgs_of c.next_step.new.self) c.in_ok-step.step
    (subst (λ (f : Pgs). TakesPg f (pgs_of c.next_step.new.self) c.in_ok-step.step) c.self.view_is c.in_ok-step.ensures.exact)

pub returns-clause-none : goal.returns-clause-none
returns-clause-none c =
    only_wrong c.args.self.now (pgs_of c.next_step.new.self) c.in_ok-step.step
    (subst (λ (f : Pgs). TakesPg f (pgs_of c.next_step.new.self) c.in_ok-step.step) c.self.view_is c.in_ok-step.ensures.exact)

pub returns-clause-total : goal.returns-clause-total
returns-clause-total c =
    total_kept c.args.self.now (pgs_of c.next_step.new.self) c.in_ok-step.step
    (subst (λ (f : Pgs). TakesPg f (pgs_of c.next_step.new.self) c.in_ok-step.step) c.self.view_is c.in_ok-step.ensures.exact)

pub returns-clause-step : goal.returns-clause-step
returns-clause-step c =
    takes_step c.args.self.now (pgs_of c.next_step.new.self) c.in_ok-step.step
    (subst (λ (f : Pgs). TakesPg f (pgs_of c.next_step.new.self) c.in_ok-step.step) c.self.view_is c.in_ok-step.ensures.exact)
