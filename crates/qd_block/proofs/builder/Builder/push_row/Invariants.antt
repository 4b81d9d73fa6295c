use Rattle.std.proofs.Common.{◌≡◌}
use Rattle.qd_block.proofs.FitLemmas.{opened}
use Rattle.qd_block.proofs.builder.Builder.push_row.Given as goal

-- the cells so far are those of the open row
abbrev pub invariant-loop-item : goal.invariant-loop-item
invariant-loop-item g l = l.self ≡ opened l.fn.self l.item-items l.item-index
