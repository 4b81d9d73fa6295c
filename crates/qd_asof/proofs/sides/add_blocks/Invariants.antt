use Rattle.std.proofs.Common.{◌≡◌, ◌++◌, take}
use Rattle.qd_asof.proofs.sides.add_blocks.Given as goal

-- the blocks so far have been added
abbrev pub invariant-loop-b : goal.invariant-loop-b
invariant-loop-b g l = l.set ≡ record l.fn.set { blocks = l.fn.set.blocks ++ take l.b l.from.blocks }
