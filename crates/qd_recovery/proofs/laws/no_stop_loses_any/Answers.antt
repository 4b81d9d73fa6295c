use Rattle.qd_recovery.proofs.Stopping.{stop_shows}
use Rattle.qd_recovery.proofs.laws.no_stop_loses_any.Goals as goal

pub returns : goal.returns
returns c = record { law = λ h run image stop. stop_shows c.one_answer.ensures.law h run image stop c.stores_are_whole.ensures.law c.now_is_a_moment_since.ensures.only }
