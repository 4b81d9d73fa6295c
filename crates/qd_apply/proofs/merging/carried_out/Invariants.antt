use Rattle.std.proofs.Common.{◌≡◌, ◌+◌, ◌++◌, drop, length, map}
use Rattle.std.specs.Arc.{arc_value}
use Rattle.qd_apply.specs.Given.{all_grown_by, all_made_by, parts_by, reads, writes}
use Rattle.qd_apply.specs.Next.{in_table}
use Rattle.qd_apply.specs.Plans.{growth_of}
use Rattle.qd_apply.proofs.merging.carried_out.Given as goal

-- the shares from a place on are left
abbrev pub invariant-loop-share : goal.invariant-loop-share
invariant-loop-share l = record {
  read : l.read + reads (drop l.share-index l.plan.shares.items) ≡ reads l.plan.shares.items;
  written : length l.made.blocks.items + writes (drop l.share-index l.plan.shares.items) ≡ length l.initial.made.blocks.items + writes l.plan.shares.items;
  parts : l.kept ++ parts_by l.plan.schema l.parts l.plan.batch.rows (l.fn.first + length l.made.blocks.items) (drop l.share-index l.plan.shares.items) (drop l.read l.given)
      ≡ parts_by l.plan.schema l.parts l.plan.batch.rows (l.fn.first + length l.initial.made.blocks.items) l.plan.shares.items l.given;
  blocks : map arc_value l.made.blocks.items ++ all_made_by l.plan.schema l.plan.batch.rows (drop l.share-index l.plan.shares.items) (drop l.read l.given)
      ≡ map arc_value l.initial.made.blocks.items ++ all_made_by l.plan.schema l.plan.batch.rows l.plan.shares.items l.given;
  grown : map growth_of l.made.grown.items ++ map (in_table l.fn.table) (all_grown_by l.plan.schema l.plan.batch.rows (drop l.share-index l.plan.shares.items))
      ≡ map growth_of l.initial.made.grown.items ++ map (in_table l.fn.table) (all_grown_by l.plan.schema l.plan.batch.rows l.plan.shares.items);
}
