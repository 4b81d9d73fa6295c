use Rattle.std.proofs.Common.{arith}
use Rattle.qd_manifest.specs.Spelling.{no_part}
use Rattle.qd_catalog.proofs.LoopLemmas.{small_part}
use Rattle.qd_catalog.proofs.tables.next_after.Goals as goal

pub overflow_add-part : goal.overflow_add-part
overflow_add-part c =
    let small = small_part c.args.parts.now c.loop-part.part-index no_part c.loop-part-test.true c.requires.small in
    omega arith
