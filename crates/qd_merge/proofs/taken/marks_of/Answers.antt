use Rattle.std.proofs.Common.{◌∙◌, ◌<◌, ap, sym, subst, ℕ, false, true, length, get_or}
use Rattle.std.proofs.lemmas.List.{length-replicate, length-set}
use Rattle.qd_merge.proofs.Marks.{none_marked, marks_more}
use Rattle.qd_merge.proofs.taken.marks_of.Goals as goal

pub loop-number-init : goal.loop-number-init
loop-number-init c =
    let marks = c.in_ok-marks.ensures.items_if_clones_equal (λ y e. e) in
    record {
      size = ap length marks ∙ length-replicate c.args.count false;
      marks = none_marked c.in_ok-marks.marks.items c.args.count marks;
    }

pub loop-number-preserved : goal.loop-number-preserved
loop-number-preserved c =
    let inv = c.loop-number.invariant in
    let numbers = c.args.numbers.now in
    let i = c.loop-number.number-index in
    let within : get_or numbers i 0 < length c.loop-number.marks.items = subst (λ (n : ℕ). get_or numbers i 0 < n) (sym inv.size) (c.requires.below i 0 c.loop-number-test.true) in
    record {
      size = length-set c.loop-number.marks.items (get_or numbers i 0) true ∙ inv.size;
      marks = marks_more numbers c.loop-number.marks.items c.args.count i c.loop-number-test.true within inv.marks;
    }
