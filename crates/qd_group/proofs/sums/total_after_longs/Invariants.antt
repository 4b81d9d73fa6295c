use Rattle.std.proofs.Common.{◌≡◌, take}
use Rattle.std.specs.Prelude.{fold}
use Rattle.qd_column.specs.Cells.{long_cell}
use Rattle.qd_meaning.specs.Grouped.{plus}
use Rattle.qd_group.proofs.sums.total_after_longs.Given as goal

-- the sum so far
abbrev pub invariant-loop-number : goal.invariant-loop-number
invariant-loop-number l = l.sum ≡ fold (λ t x. plus (long_cell x) t) l.fn.total (take l.number-index l.numbers)
