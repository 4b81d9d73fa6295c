use Rattle.qd_session.proofs.TrialLemmas.{ping-lasts}
use Rattle.qd_session.proofs.tests.PingBackBackend.keeps_to_its_rule.Goals as goal

pub returns-clause-lasting : goal.returns-clause-lasting
returns-clause-lasting c = ping-lasts
