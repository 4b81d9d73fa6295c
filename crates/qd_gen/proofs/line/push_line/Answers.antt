use Rattle.std.proofs.Common.{arith}
use Rattle.qd_gen.proofs.Lines.{line_written}
use Rattle.qd_gen.proofs.line.push_line.Goals as goal

pub returns : goal.returns
returns c =
    line_written c.args.out.now.items _ _ _ _ _ _ _ c.args.number c.args.i _ _ _ (omega arith) c.from.ensures c.value_of.ensures c.tens_of.ensures
    c.in_ok-extend_from_slice.ensures.items c.in_ok-push_number.ensures c.in_ok-extend_from_slice-2.ensures.items c.in_ok-push_number-2.ensures
    c.in_ok-extend_from_slice-3.ensures.items c.in_ok-push_number-3.ensures c.in_ok-extend_from_slice-4.ensures.items
