use Rattle.std.proofs.Common.{◌≡◌, ◌++◌, map, slice_range}
use Rattle.qd_base.specs.Rows.{cell_at}
use Rattle.qd_merge.specs.Classes.{cell_of}
use Rattle.qd_merge.specs.Equals.{firsts}
use Rattle.qd_merge.specs.Merged.{with_missing}
use Rattle.qd_merge.proofs.group.lent_cells.Given as goal

-- the cells of the block's rows so far
abbrev pub invariant-loop-place : goal.invariant-loop-place
invariant-loop-place l = map cell_of l.cells.items ≡ map (λ r. cell_at r l.col) (map (with_missing l.group.batch.now.kinds) (slice_range l.group.block.now.rows l.group.from l.place))

-- and of the batch's
abbrev pub invariant-loop-place-2 : goal.invariant-loop-place-2
invariant-loop-place-2 l = map cell_of l.cells.items ≡ map (λ r. cell_at r l.col) (firsts l.group ++ slice_range l.group.batch.now.rows l.group.start l.place)
