use Rattle.qd_session.proofs.AloneLemmas.{alone-ends, alone-lacks, alone-lasts, alone-wants}
use Rattle.qd_memory.proofs.back.ListBackBackend.keeps_to_its_rule.Goals as goal

pub returns-clause-bye : goal.returns-clause-bye
returns-clause-bye c = alone-ends

pub returns-clause-memory : goal.returns-clause-memory
returns-clause-memory c = alone-wants

pub returns-clause-clock : goal.returns-clause-clock
returns-clause-clock c = alone-lacks

pub returns-clause-lasting : goal.returns-clause-lasting
returns-clause-lasting c = alone-lasts
