use Rattle.std.proofs.Common.{◌≡◌, take}
use Rattle.qd_column.specs.Runs.{laid}
use Rattle.qd_column.proofs.texts.Texts.spliced.Given as goal

-- the rows of the runs so far are copied
abbrev pub invariant-loop-run : goal.invariant-loop-run
invariant-loop-run l = l.texts ≡ laid l.first l.second (take l.run-index l.runs)
