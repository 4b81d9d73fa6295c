use Rattle.std.proofs.Common.{◌≡◌, ◌++◌, take}
use Rattle.std.specs.List.{flat_map}
use Rattle.qd_pgwire.specs.Replies.{data_row}
use Rattle.qd_pgwire.proofs.rows.push_data.Given as goal

-- what was gone over is written
abbrev pub invariant-loop-row : goal.invariant-loop-row
invariant-loop-row l = l.out.items ≡ l.initial.out.items ++ flat_map data_row (take l.row-index l.rows)
