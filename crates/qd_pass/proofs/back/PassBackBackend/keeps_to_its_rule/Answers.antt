use Rattle.qd_pass.proofs.Ruling.{shared_lasts}
use Rattle.qd_pass.proofs.back.PassBackBackend.keeps_to_its_rule.Goals as goal

pub returns-clause-lasting : goal.returns-clause-lasting
returns-clause-lasting g c = shared_lasts
