use Rattle.std.proofs.Common.{length, map}
use Rattle.qd_rows.specs.Sets.{rows_in}
use Rattle.qd_group.specs.Kept.{AreKept}
use Rattle.qd_group.proofs.by_groups.tallies_by_row.Given as goal

-- the tallies of the rows so far
abbrev pub invariant-loop-i : goal.invariant-loop-i
invariant-loop-i g l = AreKept l.agg l.groups.numbers.items (rows_in l.rows) l.i (length l.groups.firsts.items) (map g.K.Keeping.state l.tallies.items)
