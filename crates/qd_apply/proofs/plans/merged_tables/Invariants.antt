use Rattle.std.proofs.Common.{◌≡◌, ◌+◌, ◌++◌, drop, length, map}
use Rattle.std.specs.Arc.{arc_value}
use Rattle.qd_apply.specs.Plans.{all_by, all_reads, all_writes, grown_by_all, growth_of, shape_by, AreEarlier, ArePlanned}
use Rattle.qd_apply.proofs.plans.merged_tables.Given as goal

-- the tables from a place on are left
abbrev pub invariant-loop-i : goal.invariant-loop-i
invariant-loop-i l = record {
  read : l.read + all_reads (drop l.i l.tables) ≡ all_reads l.tables;
  written : length l.made.blocks.items + all_writes (drop l.i l.tables) ≡ length l.initial.made.blocks.items + all_writes l.tables;
  planned : ArePlanned (drop l.i l.shape) (drop l.i l.tables);
  given : AreEarlier (drop l.i l.tables) (drop l.read l.given);
  shape : l.after ++ shape_by (drop l.i l.shape) (drop l.i l.tables) (l.fn.first + length l.made.blocks.items) (drop l.read l.given) ≡ shape_by l.shape l.tables (l.fn.first + length l.initial.made.blocks.items) l.given;
  blocks : map arc_value l.made.blocks.items ++ all_by (drop l.i l.tables) (drop l.read l.given) ≡ map arc_value l.initial.made.blocks.items ++ all_by l.tables l.given;
  grown : map growth_of l.made.grown.items ++ grown_by_all l.i (drop l.i l.tables) ≡ map growth_of l.initial.made.grown.items ++ grown_by_all 0 l.tables;
}
