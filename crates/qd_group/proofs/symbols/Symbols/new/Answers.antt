use Rattle.qd_group.proofs.SymbolLemmas.{stands_none}
use Rattle.qd_group.proofs.symbols.Symbols.new.Goals as goal

pub returns : goal.returns
returns c = record { none = λ texts cells. stands_none texts cells _ c.new.ensures.empty c.new-2.ensures.items c.new-3.ensures.numbers c.new-3.ensures.firsts }
