use Rattle.std.proofs.Common.{◌≡◌, ◌++◌, take}
use Rattle.qd_rows.specs.Sets.{absent}
use Rattle.qd_rows.proofs.set.with_absent.Given as goal

-- what the columns so far hold stands behind the row's own cells
abbrev pub invariant-loop-col : goal.invariant-loop-col
invariant-loop-col l = l.row ≡ l.fn.row ++ absent (take l.col-index l.cols)
