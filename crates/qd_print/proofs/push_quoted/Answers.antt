use Rattle.std.proofs.Common.{arith, refl, get_or, ◌==◌, ◌∷◌, [], if◌then◌else◌, List, ℕ}
use Rattle.qd_print.proofs.PrintLemmas.{doubled_step, stretch_step, quote_doubled, other_kept}
use Rattle.qd_print.proofs.push_quoted.Goals as goal
use Rattle.qd_print.proofs.push_quoted.Goals.{then-b-eq34+in_ok-extend_from_slice, else-b-eq34}

double : ℕ → List ℕ
double b = if b == 34 then 34 ∷ 34 ∷ [] else b ∷ []

pub loop-i-preserved : goal.loop-i-preserved
unfolding double
loop-i-preserved c =
    let text = c.args.text.now in
    let i = c.loop-i.i in
    elim c.if-b-eq34.branch [
      | then-b-eq34+in_ok-extend_from_slice w ↦ record {
        in_order = omega (arith, w.start-is);
        written = rw (w.out-is, w.start-is, w.in_ok-extend_from_slice.ensures.items) (doubled_step double c.loop-i.out.items c.push.new.self.items text c.loop-i.start i (get_or text i 0) c.loop-i.invariant.in_order (omega arith) refl (quote_doubled _ w.if-b-eq34.true) c.loop-i.invariant.written);
      }
      | else-b-eq34 w ↦ record {
        in_order = omega (arith, w.start-is);
        written = rw (w.out-is, w.start-is) (stretch_step double c.loop-i.out.items c.push.new.self.items text c.loop-i.start i (get_or text i 0) c.loop-i.invariant.in_order (omega arith) refl (other_kept _ w.if-b-eq34.false) c.loop-i.invariant.written);
      }
    ]
