use Rattle.qd_session.proofs.RuleLemmas.{allowed-lasts}
use Rattle.qd_session.proofs.tests.SilentBackBackend.keeps_to_its_rule.Goals as goal

pub returns-clause-lasting : goal.returns-clause-lasting
returns-clause-lasting c = allowed-lasts
