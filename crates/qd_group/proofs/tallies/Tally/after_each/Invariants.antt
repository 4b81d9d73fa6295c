use Rattle.std.proofs.Common.{◌≡◌, take, map}
use Rattle.std.specs.Prelude.{fold}
use Rattle.qd_column.specs.Cells.{long_cell}
use Rattle.qd_group.specs.Tallied.{state_of}
use Rattle.qd_group.specs.Tallies.{next}
use Rattle.qd_group.proofs.tallies.Tally.after_each.Given as goal

-- what is kept so far
abbrev pub invariant-loop-number : goal.invariant-loop-number
invariant-loop-number l = state_of l.tally ≡ fold next (state_of l.fn.self) (map long_cell (take l.number-index l.numbers))
