use Rattle.std.proofs.Common.{nat_eq, arith}
use Rattle.indexmap.specs.IndexMap.{get}
use Rattle.qd_manifest.specs.Spelling.{no_part}
use Rattle.qd_catalog.proofs.LoopLemmas.{list_step, new_step}
use Rattle.qd_catalog.proofs.blocks.list_parts.Goals as goal

pub loop-part-preserved : goal.loop-part-preserved
loop-part-preserved c =
    let e = c.list_part.ensures in
    let step = new_step c.args.parts.now c.loop-part.part-index no_part c.loop-part-test.true (get nat_eq c.loop-part.kept) (get nat_eq c.list_part.new.kept) c.args.row e.listed in
    record {
      listed = list_step c.args.parts.now c.loop-part.part-index no_part c.loop-part-test.true (get nat_eq c.args.kept.now) (get nat_eq c.loop-part.kept) (get nat_eq c.list_part.new.kept) c.args.row c.loop-part.invariant.listed e.listed;
      room = omega arith;
      used = omega arith;
      len = omega arith;
    }
