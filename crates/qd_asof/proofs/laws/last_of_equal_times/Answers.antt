use Rattle.qd_asof.proofs.LawLemmas.{last-of-equal-times}
use Rattle.qd_asof.proofs.laws.last_of_equal_times.Goals as goal

pub returns : goal.returns
returns c = record { law = last-of-equal-times c.joins_take_the_last.ensures.law }
