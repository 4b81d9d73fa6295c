use Rattle.std.proofs.Common.{◌≡◌, length}
use Rattle.qd_group.proofs.PairLemmas.{Tabled}
use Rattle.qd_group.proofs.pairs.grouped_by_table.Given as goal

-- the pairs so far
abbrev pub invariant-loop-i : goal.invariant-loop-i
invariant-loop-i l = record {
  tabled : Tabled l.numbers l.further l.layout.width l.table.items l.i l.groups.numbers.items l.groups.firsts.items;
  places : length l.table.items ≡ l.layout.places;
}
