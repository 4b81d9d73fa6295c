use Rattle.std.proofs.Common.{arith, sym, ap, length}
use Rattle.std.proofs.lemmas.Fmt.{decimal_digit}
use Rattle.qd_print.proofs.LengthLemmas.{length-decimal}
use Rattle.qd_gen.proofs.line.decimal_len.Goals as goal

pub returns-in-Some-clause-length : goal.returns-in-Some-clause-length
returns-in-Some-clause-length c =
    sym (length-decimal c.in-Some.power c.args.n c.in-Some.ensures.power_le c.in-Some.ensures.next_power_gt (omega arith))

pub returns-in-None-clause-length : goal.returns-in-None-clause-length
returns-in-None-clause-length c =
    sym (ap length (decimal_digit c.args.n (omega (arith, c.in-None.ensures.none))))
