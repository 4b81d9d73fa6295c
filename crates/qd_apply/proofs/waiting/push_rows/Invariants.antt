use Rattle.std.proofs.Common.{◌≡◌, ◌++◌, take}
use Rattle.qd_apply.proofs.waiting.push_rows.Given as goal

-- the rows so far stand behind the others
abbrev pub invariant-loop-row : goal.invariant-loop-row
invariant-loop-row l = l.current ≡ record l.initial.current { rows = l.initial.current.rows ++ take l.row-index l.rows }
