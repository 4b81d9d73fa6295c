use Rattle.std.proofs.Common.{arith, refl, get_or, sym, ◌∙◌}
use Rattle.qd_print.proofs.PrintLemmas.{stretch_step}
use Rattle.qd_http.specs.Json.{escaped}
use Rattle.qd_http.proofs.TextLemmas.{escape_step, plain_byte}
use Rattle.qd_http.proofs.escape.push_text.Goals as goal
use Rattle.qd_http.proofs.escape.push_text.Goals.{then-is_escaped+in_ok-extend_from_slice+in_ok-push_escape, else-is_escaped}

pub loop-i-preserved : goal.loop-i-preserved
loop-i-preserved c =
    let text = c.args.text.now in
    let i = c.loop-i.i in
    elim c.if-is_escaped.branch [
      | then-is_escaped+in_ok-extend_from_slice+in_ok-push_escape w ↦ record {
        in_order = omega (arith, w.start-is);
        written = rw (w.out-is, w.start-is) (escape_step c.loop-i.out.items w.extend_from_slice.new.self.items w.push_escape.new.out.items c.push.new.self.items text c.loop-i.start i (get_or text i 0) (omega arith) refl w.in_ok-extend_from_slice.ensures.items w.in_ok-push_escape.ensures c.loop-i.invariant.written);
      }
      | else-is_escaped w ↦ record {
        in_order = omega (arith, w.start-is);
        written = rw (w.out-is, w.start-is) (stretch_step escaped c.loop-i.out.items c.push.new.self.items text c.loop-i.start i (get_or text i 0) c.loop-i.invariant.in_order (omega arith) refl (plain_byte _ (sym c.is_escaped.ensures ∙ w.if-is_escaped.false)) c.loop-i.invariant.written);
      }
    ]
