use Rattle.qd_recovery.proofs.Opening.{begins_again, holds_all, opens_as, stays_left}
use Rattle.qd_recovery.proofs.laws.opening_gives_all.Goals as goal

pub returns : goal.returns
returns c = record {
  law = record {
    opens = λ f image result before after finds all. opens_as c.crashed_is_whole.ensures.law c.reads_as_an_image.ensures f image before finds all result after;
    stays = λ image result before after all. stays_left image before all result after;
    begins = λ f image s before after finds all. begins_again c.crashed_is_whole.ensures.law c.reads_as_an_image.ensures f image before finds all s after;
    applied = holds_all c.one_answer.ensures.law c.applied_is_all.ensures.law;
  };
}
