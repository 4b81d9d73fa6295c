use Rattle.std.proofs.Common.{arith, sym, ◌∙◌}
use Rattle.qd_gen.proofs.Lines.{out_more, out_same}
use Rattle.qd_gen.proofs.stretch.push_stretch.Goals as goal
use Rattle.qd_gen.proofs.stretch.push_stretch.Goals.{then-is_taken+in_ok-push_line, else-is_taken}

pub loop-i-preserved : goal.loop-i-preserved
loop-i-preserved c =
    let s = c.args.stretch.now in
    elim c.if-is_taken.branch [
      | then-is_taken+in_ok-push_line w ↦
          rw (w.out-is) (out_more s.share c.args.number s.first c.loop-i.i c.args.out.now.items c.loop-i.out.items w.push_line.new.out.items (omega arith) (sym c.is_taken.ensures ∙ w.if-is_taken.true) c.loop-i.invariant w.in_ok-push_line.ensures)
      | else-is_taken w ↦
          rw (w.out-is) (out_same s.share c.args.number s.first c.loop-i.i c.args.out.now.items c.loop-i.out.items (omega arith) (sym c.is_taken.ensures ∙ w.if-is_taken.false) c.loop-i.invariant)
    ]
