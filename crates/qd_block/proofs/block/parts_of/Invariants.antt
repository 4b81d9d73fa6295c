use Rattle.std.proofs.Common.{◌≡◌, map, take}
use Rattle.qd_block.specs.Blocks.{part_of_column}
use Rattle.qd_block.proofs.block.parts_of.Given as goal

-- the columns so far are copied
abbrev pub invariant-loop-column : goal.invariant-loop-column
invariant-loop-column g l = l.parts.items ≡ map (part_of_column l.from l.to) (take l.column-index l.columns)
