use Rattle.std.proofs.Common.{arith, ◌∙◌, FitsSigned, w16}
use Rattle.std.proofs.lemmas.Int.{to_z-of_z}
use Rattle.jiff_core.proofs.SignedLemmas.{signed_arith}
use Rattle.qd_time.proofs.DateOrderLemmas.{month_first-number, month_after-number, month_after_high, month_days-is}
use Rattle.qd_time.proofs.calendar.first_of_next_month.Goals as goal

pub overflow_sub-result-2 : goal.overflow_sub-result-2
overflow_sub-result-2 c = omega (arith, month_first-number c.args.day)

pub returns-clause-value : goal.returns-clause-value
returns-clause-value c =
    let d = c.date_of_day-date.result in
    let f : FitsSigned w16 d.year = omega (arith, signed_arith, d.year_in) in
    let length = simp to_z-of_z at c.days_in_month-length.ensures.value in
    omega (arith, month_first-number c.args.day, month_after-number c.args.day, length ∙ month_days-is d c.args.day c.date_of_day-date.ensures)

pub returns-clause-bound : goal.returns-clause-bound
returns-clause-bound c =
    let d = c.date_of_day-date.result in
    let f : FitsSigned w16 d.year = omega (arith, signed_arith, d.year_in) in
    let length = simp to_z-of_z at c.days_in_month-length.ensures.value in
    omega (arith, month_first-number c.args.day, month_after-number c.args.day, month_after_high c.args.day c.requires, length ∙ month_days-is d c.args.day c.date_of_day-date.ensures)
