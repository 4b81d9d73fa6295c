use Rattle.std.proofs.Common.{◌≡◌, ◌++◌, map, take}
use Rattle.qd_http.specs.Json.{json_cell, listed}
use Rattle.qd_http.proofs.rows.push_cells.Given as goal

-- what was gone over is written
abbrev pub invariant-loop-i : goal.invariant-loop-i
invariant-loop-i l = l.out.items ≡ l.initial.out.items ++ listed (map json_cell (take l.i l.cells))
