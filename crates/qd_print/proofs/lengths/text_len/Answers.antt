use Rattle.std.proofs.Common.{arith}
use Rattle.qd_print.proofs.LengthLemmas.{length-quoted}
use Rattle.qd_print.proofs.lengths.text_len.Goals as goal

pub returns-then-is_quoted : goal.returns-then-is_quoted
returns-then-is_quoted c =
    rw (← c.if-is_quoted.ensures) (omega (arith, length-quoted c.args.text.now))
