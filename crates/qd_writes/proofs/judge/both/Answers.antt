use Rattle.std.proofs.Common.{◌∙◌, ap₂, sym}
use Rattle.qd_meaning.specs.Refusals.{sooner}
use Rattle.qd_writes.proofs.judge.both.Goals as goal

pub returns : goal.returns
returns c = record { least = λ xs ys e f. c.sooner.ensures.least ∙ ap₂ sooner e f ∙ sym (c.least_is_answered.ensures.law.parts xs ys) }
