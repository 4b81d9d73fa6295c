use Rattle.std.proofs.Common.{◌≡◌, [], take}
use Rattle.qd_block.specs.Blocks.{kinds_in}
use Rattle.qd_block.proofs.block.Block.from_rows.Given as goal

-- the rows so far are those of the builder
abbrev pub invariant-loop-row : goal.invariant-loop-row
invariant-loop-row g l = l.builder ≡ record { kinds = kinds_in l.cols; time_col = l.fn.time_col; rows = take l.row-index l.row-items; open_row = [] }
