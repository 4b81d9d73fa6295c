use Rattle.std.proofs.Common.{◌≡◌, take}
use Rattle.std.specs.List.{fold}
use Rattle.qd_base.specs.Rows.{put}
use Rattle.qd_reference.proofs.rows.put_all.Given as goal

-- the new rows so far have been put
abbrev pub invariant-loop-row : goal.invariant-loop-row
invariant-loop-row l = l.out ≡ fold (put l.time_col l.keys) l.rows (take l.row-index l.new)
