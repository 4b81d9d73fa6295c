use Rattle.std.proofs.Common.{◌≡◌, map, take}
use Rattle.qd_meaning.specs.Creating.{col_of}
use Rattle.qd_writes.proofs.create.columns_of.Given as goal

-- the columns so far
abbrev pub invariant-loop-def : goal.invariant-loop-def
invariant-loop-def l = l.made ≡ map col_of (take l.def-index l.columns)
