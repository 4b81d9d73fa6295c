use Rattle.std.proofs.Common.{◌≡◌, length, take}
use Rattle.qd_column.specs.Runs.{laid}
use Rattle.qd_column.specs.Symbols.{texts_in, LeadsTo}
use Rattle.qd_column.proofs.symbols.Symbols.spliced.Given as goal

-- the rows of the runs so far are there, and both tables lead to their texts
abbrev pub invariant-loop-run : goal.invariant-loop-run
invariant-loop-run g l = record {
  cells : l.symbols ≡ laid l.first l.second (take l.run-index l.runs);
  first_size : length l.of_first.items ≡ length (texts_in l.first);
  second_size : length l.of_second.items ≡ length (texts_in l.second);
  first_leads : LeadsTo (texts_in l.first) (texts_in l.symbols) l.of_first.items;
  second_leads : LeadsTo (texts_in l.second) (texts_in l.symbols) l.of_second.items;
}
