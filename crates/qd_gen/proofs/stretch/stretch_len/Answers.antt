use Rattle.std.proofs.Common.{arith, sym, ◌∙◌}
use Rattle.qd_gen.proofs.Lines.{len_more, len_same}
use Rattle.qd_gen.proofs.stretch.stretch_len.Goals as goal
use Rattle.qd_gen.proofs.stretch.stretch_len.Goals.{then-is_taken, else-is_taken}

pub loop-i-preserved : goal.loop-i-preserved
loop-i-preserved c =
    let s = c.args.stretch.now in
    elim c.if-is_taken.branch [
      | then-is_taken w ↦ record {
        text = len_more s.share c.args.number s.first c.loop-i.i c.loop-i.len w.line_len-len.result c.if-is_taken.len (omega arith) (sym c.is_taken.ensures ∙ w.if-is_taken.true) c.loop-i.invariant.text w.line_len-len.ensures.length w.len-is;
        short = omega (arith, w.len-is, w.line_len-len.ensures.short);
      }
      | else-is_taken w ↦ record {
        text = rw (w.len-is) (len_same s.share c.args.number s.first c.loop-i.i c.loop-i.len (omega arith) (sym c.is_taken.ensures ∙ w.if-is_taken.false) c.loop-i.invariant.text);
        short = omega (arith, w.len-is);
      }
    ]
