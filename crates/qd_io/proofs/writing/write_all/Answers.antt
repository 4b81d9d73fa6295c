use Rattle.std.proofs.Common.{arith, ◌∙◌}
use Rattle.std.proofs.lemmas.List.{length-drop}
use Rattle.qd_io.proofs.WritesLemmas.{WroteFirst-more, take-rest}
use Rattle.qd_io.proofs.StreamLemmas.{input-stays-on}
use Rattle.qd_io.proofs.writing.write_all.Goals as goal

pub loop-done-preserved : goal.loop-done-preserved
loop-done-preserved g c =
    let whole = take-rest c.args.bytes.now c.loop-done.done in
    let wrote = rw whole at c.in_ok-done.ensures in
    let so_far = c.loop-done.invariant in
    record {
      within = omega (arith, wrote.within, length-drop c.loop-done.done c.args.bytes.now);
      wrote = WroteFirst-more _ _ _ _ _ _ so_far.wrote wrote.told;
      none_failed = wrote.counted ∙ so_far.none_failed;
      rest = input-stays-on _ _ _ so_far.rest wrote.rest;
    }
