use Rattle.std.proofs.Common.{arith, sym}
use Rattle.qd_gen.proofs.Lines.{length-line, line_short}
use Rattle.qd_gen.proofs.line.line_len.Goals as goal

pub returns-clause-length : goal.returns-clause-length
returns-clause-length c =
    rw (c.decimal_len.ensures.length, c.decimal_len-2.ensures.length, c.value_of.ensures, c.tens_of.ensures) (sym (length-line c.args.number c.args.i (omega arith)))

pub returns-clause-short : goal.returns-clause-short
returns-clause-short c =
    rw (c.decimal_len.ensures.length, c.decimal_len-2.ensures.length, c.value_of.ensures, c.tens_of.ensures) (omega (arith, length-line c.args.number c.args.i (omega arith), line_short c.args.number c.args.i (omega arith)))
