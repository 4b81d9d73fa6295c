use Rattle.std.proofs.Common.{subst}
use Rattle.qd_http.specs.Steps.{Https, TakesHttp}
use Rattle.qd_http.specs.Reading.{https_of}
use Rattle.qd_http.proofs.TurnLemmas.{only_end, only_none, only_unfinished, only_whole, takes_step, total_kept}
use Rattle.qd_http.proofs.front.HttpFrontFront.next_step.Goals as goal

-- what the reader did
exact : (c : goal.Joined-self-taken) → TakesHttp c.args.self.now (https_of c.next_step.new.self c.in_ok-taken.taken.asked) c.in_ok-taken.taken.step
exact c =
    let t = c.in_ok-taken.taken in
    subst (λ (f : Https). TakesHttp f (https_of c.next_step.new.self t.asked) t.step) c.self.view_is (c.in_ok-taken.ensures.exact c.self.inside.asked)

pub returns-clause-exact : goal.returns-clause-exact
returns-clause-exact c = exact c

pub returns-clause-whole : goal.returns-clause-whole
returns-clause-whole c = only_whole c.args.self.now (https_of c.next_step.new.self c.in_ok-taken.taken.asked) c.in_ok-taken.taken.step (exact c)

pub returns-clause-unfinished : goal.returns-clause-unfinished
returns-clause-unfinished c = only_unfinished c.args.self.now (https_of c.next_step.new.self c.in_ok-taken.taken.asked) c.in_ok-taken.taken.step (exact c)

pub returns-clause-none : goal.returns-clause-none
returns-clause-none c = only_none c.args.self.now (https_of c.next_step.new.self c.in_ok-taken.taken.asked) c.in_ok-taken.taken.step (exact c)

pub returns-clause-end : goal.returns-clause-end
returns-clause-end c = only_end c.args.self.now (https_of c.next_step.new.self c.in_ok-taken.taken.asked) c.in_ok-taken.taken.step (exact c)

pub returns-clause-total : goal.returns-clause-total
returns-clause-total c = total_kept c.args.self.now (https_of c.next_step.new.self c.in_ok-taken.taken.asked) c.in_ok-taken.taken.step (exact c)

pub returns-clause-step : goal.returns-clause-step
returns-clause-step c = takes_step c.args.self.now (https_of c.next_step.new.self c.in_ok-taken.taken.asked) c.in_ok-taken.taken.step (exact c)
