use Rattle.qd_memory.proofs.ChangeLemmas.{none_are}
use Rattle.qd_memory.proofs.tables.Tables.new.Goals as goal

pub invariant_of-result : goal.invariant_of-result
invariant_of-result c = none_are c.new.result c.new-2.result.items c.new.ensures.empty c.new-2.ensures.items
