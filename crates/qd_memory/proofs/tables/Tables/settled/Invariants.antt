use Rattle.std.proofs.Common.{◌≡◌, ℕ, ◌<◌, length, get_or}
use Rattle.std.specs.List.{AllByRecursion}
use Rattle.qd_memory.specs.Kept.{database_of, IsKept, IsSettled, Kept}
use Rattle.qd_memory.proofs.tables.Tables.settled.Given as goal

-- the tables come to the same database, and in those so far no row waits
abbrev pub invariant-loop-i : goal.invariant-loop-i
invariant-loop-i l = record {
  same : database_of l.tables.items ≡ database_of l.initial.tables.items;
  count : length l.tables.items ≡ length l.initial.tables.items;
  kept : AllByRecursion IsKept l.tables.items;
  settled : (k : ℕ) (d : Kept) → k < l.i → IsSettled (get_or l.tables.items k d);
}
