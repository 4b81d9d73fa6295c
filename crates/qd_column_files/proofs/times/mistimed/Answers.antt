use Rattle.std.proofs.Common.{◌≡◌, ◌∙◌, ◌-◌, ◌<◌, inl, inr, true, length, refl, sym, ap, arith, rules}
use Rattle.qd_column_files.specs.Columns.{AreTimely, time_at}
use Rattle.qd_column_files.proofs.TimeLemmas.{cells, other_end, shown_at}
use Rattle.qd_column_files.proofs.times.mistimed.Goals as goal

pub returns-then-shown-part-clause-mistimed : goal.returns-then-shown-part-clause-mistimed
returns-then-shown-part-clause-mistimed c =
    let times = c.args.times.now in
    let on : c.args.is_designated ≡ true = first_of (cc, grind arith) in
    let timely : AreTimely c.args.is_designated (cells times) = first_of (search rules, grind arith) in
    let some : 0 < length times = omega arith in
    other_end c.args.is_designated c.args.part (cells times) 0 on timely (inl (refl, λ e. c.if-shown-part.true (c.shown.ensures.time ∙ sym (shown_at times 0 some) ∙ e)))

pub returns-then-shown-part-2-clause-mistimed : goal.returns-then-shown-part-2-clause-mistimed
returns-then-shown-part-2-clause-mistimed c =
    let times = c.args.times.now in
    let on : c.args.is_designated ≡ true = first_of (cc, grind arith) in
    let timely : AreTimely c.args.is_designated (cells times) = first_of (search rules, grind arith) in
    let some : 0 < length times = omega arith in
    let last : length times - 1 < length times = omega arith in
    let is : length times - 1 ≡ c.args.part.rows - 1 = omega arith in
    let lo : time_at (cells times) 0 ≡ c.args.part.lo = shown_at times 0 some ∙ sym c.shown.ensures.time ∙ c.if-shown-part.false in
    other_end c.args.is_designated c.args.part (cells times) (length times - 1) on timely
    (inr (is, lo, λ e. c.if-shown-part-2.true (c.shown-2.ensures.time ∙ sym (shown_at times (length times - 1) last) ∙ ap (time_at (cells times)) is ∙ e)))
