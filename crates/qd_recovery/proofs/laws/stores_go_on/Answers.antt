use Rattle.qd_recovery.proofs.Steps.{begins_as, steps_go_on, steps_numbered}
use Rattle.qd_recovery.proofs.laws.stores_go_on.Goals as goal

pub returns : goal.returns
returns c = record {
  law = record {
    begins = begins_as;
    goes_on = steps_go_on c.one_answer.ensures.law;
    numbered = steps_numbered c.one_answer.ensures.law c.reads_as_an_image.ensures;
  };
}
