use Rattle.std.proofs.Common.{◌∙◌, ◌*◌, ap, arith}
use Rattle.std.proofs.lemmas.List.{take_rest}
use Rattle.byteorder.specs.Endian.{little_number}
use Rattle.qd_column_format.proofs.StoredTails.{named_one, word_at}
use Rattle.qd_column_format.proofs.numbers.named_in.Goals as goal

pub loop-i-preserved : goal.loop-i-preserved
loop-i-preserved c ids size fits begins =
    c.named_with-count.ensures.named
    ∙ named_one ids c.loop-i.i c.loop-i.count c.read_u64.result (omega (arith, size, c.loop-i-test.true)) (c.loop-i.invariant ids size fits begins)
    (c.read_u64.ensures ∙ ap (little_number 8) (take_rest c.args.main.now (8 * c.loop-i.i)) ∙ word_at c.args.main.now ids c.loop-i.i (omega (arith, size, c.loop-i-test.true)) fits begins)
