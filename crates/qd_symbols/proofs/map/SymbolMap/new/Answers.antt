use Rattle.std.proofs.Common.{arith}
use Rattle.qd_base.proofs.Texts.{none_distinct}
use Rattle.qd_symbols.proofs.map.SymbolMap.new.Goals as goal

pub invariant_of-result : goal.invariant_of-result
invariant_of-result c = rw c.new.ensures.empty (record { distinct = none_distinct; few = omega arith })
