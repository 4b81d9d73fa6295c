use Rattle.std.proofs.Common.{◌≡◌, ◌≤◌, List, length, map}
use Rattle.qd_base.specs.Rows.{Row}
use Rattle.qd_meaning.specs.declared.parts.Agg.TheVariants as agg
use Rattle.qd_group.specs.Kept.{AreKept}
use Rattle.qd_group.proofs.by_groups.add_counts.Given as goal

-- the counts of the rows so far
abbrev pub invariant-loop-i : goal.invariant-loop-i
invariant-loop-i g l = record {
  kept : (all : List Row) → length l.groups.numbers.items ≤ length all → AreKept agg.Count l.groups.numbers.items all 0 (length l.groups.firsts.items) (map g.K.Keeping.state l.initial.tallies.items)
      → AreKept agg.Count l.groups.numbers.items all l.i (length l.groups.firsts.items) (map g.K.Keeping.state l.tallies.items);
  size : length l.tallies.items ≡ length l.groups.firsts.items;
}
