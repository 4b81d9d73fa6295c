use Rattle.std.proofs.Common.{◌≡◌, ◌++◌, take}
use Rattle.qd_memory.proofs.table.push_rows.Given as goal

-- the rows so far stand behind the others
abbrev pub invariant-loop-row : goal.invariant-loop-row
invariant-loop-row l = l.waiting ≡ record l.initial.waiting { rows = l.initial.waiting.rows ++ take l.row-index l.rows }
