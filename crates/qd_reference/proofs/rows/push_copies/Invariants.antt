use Rattle.std.proofs.Common.{◌≡◌, ◌++◌, take}
use Rattle.qd_reference.proofs.rows.push_copies.Given as goal

-- the rows so far have been added
abbrev pub invariant-loop-row : goal.invariant-loop-row
invariant-loop-row l = l.out ≡ l.initial.out ++ take l.row-index l.row-items
