use Rattle.std.proofs.Common.{◌≡◌, ℕ, ◌+◌, ◌<◌, ◌≤◌, [], List, length, map, get_or}
use Rattle.std.specs.Prelude.{pos}
use Rattle.qd_base.specs.Rows.{Row}
use Rattle.qd_column.specs.Cells.{long_cell}
use Rattle.qd_meaning.specs.declared.parts.Agg.{Agg}
use Rattle.qd_group.specs.Kept.{AreKept}
use Rattle.qd_group.specs.Tallies.{argument}
use Rattle.qd_group.proofs.by_groups.add_longs.Given as goal

-- the tallies of the rows so far
abbrev pub invariant-loop-k : goal.invariant-loop-k
invariant-loop-k g l = record {
  kept : (a : Agg) (all : List Row) → l.before + length l.numbers ≤ length all → ((k : ℕ) → k < length l.numbers → long_cell (get_or l.numbers k (pos 0)) ≡ argument a (get_or all (l.before + k) []))
      → AreKept a l.groups.numbers.items all l.before (length l.groups.firsts.items) (map g.K.Keeping.state l.initial.tallies.items) → AreKept a l.groups.numbers.items all (l.before + l.k) (length l.groups.firsts.items) (map g.K.Keeping.state l.tallies.items);
  size : length l.tallies.items ≡ length l.groups.firsts.items;
}
