use Rattle.qd_group.specs.Numbering.{texts_at, Stands}
use Rattle.qd_group.proofs.RunLemmas.{before, cells_of}
use Rattle.qd_group.proofs.symbols.grouped_by_column.Given as goal

-- the rows of the runs so far are numbered
abbrev pub invariant-loop-run : goal.invariant-loop-run
invariant-loop-run g l = Stands (texts_at l.rows l.at) (cells_of l.rows l.at) (before l.run-items l.run-index) l.symbols
