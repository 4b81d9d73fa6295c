use Rattle.std.proofs.Common.{◌≡◌, ◌++◌, take}
use Rattle.std.specs.List.{flat_map}
use Rattle.qd_pgwire.specs.Replies.{column_field}
use Rattle.qd_pgwire.proofs.rows.push_columns.Given as goal

-- what was gone over is written
abbrev pub invariant-loop-col : goal.invariant-loop-col
invariant-loop-col l = l.out.items ≡ l.initial.out.items ++ flat_map column_field (take l.col-index l.cols)
