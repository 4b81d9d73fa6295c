use Rattle.std.proofs.Common.{map, take}
use Rattle.qd_base.specs.Rows.{cell_at}
use Rattle.qd_group.specs.Keys.{lent}
use Rattle.qd_rows.specs.Sets.{rows_in}
use Rattle.qd_keys.specs.Symbols.{AreNumbersOf}
use Rattle.qd_keys.proofs.symbols.numbers_of.Given as goal

-- the numbers of the rows so far
abbrev pub invariant-loop-i : goal.invariant-loop-i
invariant-loop-i g l = AreNumbersOf (map lent l.names.texts.items) l.names.groups.firsts.items (take l.i (map (λ r. cell_at r l.at) (rows_in l.rows))) l.numbers.items
