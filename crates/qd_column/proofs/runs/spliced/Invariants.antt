use Rattle.std.proofs.Common.{◌≡◌, take}
use Rattle.qd_column.specs.Runs.{laid}
use Rattle.qd_column.proofs.runs.spliced.Given as goal

-- the items of the runs so far are copied
abbrev pub invariant-loop-run : goal.invariant-loop-run
invariant-loop-run g l = l.items.items ≡ laid l.first l.second (take l.run-index l.runs)
