use Rattle.std.proofs.Common.{◌≡◌, take}
use Rattle.qd_apply.specs.Arrivals.{without_rows}
use Rattle.qd_apply.proofs.tables.Tables.new.Given as goal

-- the tables so far
abbrev pub invariant-loop-i : goal.invariant-loop-i
invariant-loop-i l = l.tables.items ≡ without_rows (take l.i l.fn.schemas)
