use Rattle.std.proofs.Common.{length, map}
use Rattle.qd_rows.specs.Sets.{rows_in}
use Rattle.qd_group.specs.Kept.{AreKept}
use Rattle.qd_group.proofs.RunLemmas.{before}
use Rattle.qd_group.proofs.by_groups.add_runs.Given as goal

-- the tallies of the rows of the runs so far
abbrev pub invariant-loop-run : goal.invariant-loop-run
invariant-loop-run g l = AreKept l.agg l.groups.numbers.items (rows_in l.rows) (before l.run-items l.run-index) (length l.groups.firsts.items) (map g.K.Keeping.state l.tallies.items)
