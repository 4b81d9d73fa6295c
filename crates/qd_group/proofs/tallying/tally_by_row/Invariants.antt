use Rattle.std.proofs.Common.{◌≡◌, take}
use Rattle.qd_rows.specs.Sets.{rows_in}
use Rattle.qd_group.specs.Tallied.{state_of}
use Rattle.qd_group.specs.Tallies.{tallied}
use Rattle.qd_group.proofs.tallying.tally_by_row.Given as goal

-- the tally of the rows so far
abbrev pub invariant-loop-i : goal.invariant-loop-i
invariant-loop-i g l = state_of l.tally ≡ tallied l.agg (take l.i (rows_in l.rows))
