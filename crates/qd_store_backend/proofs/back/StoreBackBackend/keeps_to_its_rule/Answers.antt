use Rattle.qd_session.proofs.AloneLemmas.{alone-ends, alone-lacks, alone-lasts, alone-wants}
use Rattle.qd_store_backend.proofs.back.StoreBackBackend.keeps_to_its_rule.Goals as goal

pub returns-clause-bye : goal.returns-clause-bye
returns-clause-bye g c = alone-ends

pub returns-clause-memory : goal.returns-clause-memory
returns-clause-memory g c = alone-wants

pub returns-clause-clock : goal.returns-clause-clock
returns-clause-clock g c = alone-lacks

pub returns-clause-lasting : goal.returns-clause-lasting
returns-clause-lasting g c = alone-lasts
