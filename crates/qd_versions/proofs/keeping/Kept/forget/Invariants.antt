use Rattle.std.proofs.Common.{take, All}
use Rattle.qd_versions.specs.Tails.{IsLeft, blocks_growing}
use Rattle.qd_versions.proofs.keeping.Kept.forget.Given as goal

-- those of the first blocks are gone
abbrev pub invariant-loop-x : goal.invariant-loop-x
invariant-loop-x l = All (IsLeft l.fn.self (take l.x-index (blocks_growing l.growing))) l.self
