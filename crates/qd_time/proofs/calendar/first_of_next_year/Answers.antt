use Rattle.std.proofs.Common.{arith, ◌∙◌, FitsSigned, w16}
use Rattle.std.proofs.lemmas.Int.{to_z-of_z}
use Rattle.jiff_core.proofs.SignedLemmas.{signed_arith}
use Rattle.qd_time.proofs.DateOrderLemmas.{year_first-number, year_after-number, year_after_high, ordinal-is, year_days-is}
use Rattle.qd_time.proofs.calendar.first_of_next_year.Goals as goal

pub overflow_sub-result-2 : goal.overflow_sub-result-2
overflow_sub-result-2 c =
    omega (arith, year_first-number c.args.day, c.day_of_year.ensures.value ∙ ordinal-is c.date_of_day-date.result c.args.day c.date_of_day-date.ensures)

pub returns-clause-value : goal.returns-clause-value
returns-clause-value c =
    let d = c.date_of_day-date.result in
    let f : FitsSigned w16 d.year = omega (arith, signed_arith, d.year_in) in
    let length = simp to_z-of_z at c.days_in_year-length.ensures in
    omega (arith, year_first-number c.args.day, year_after-number c.args.day, c.day_of_year.ensures.value ∙ ordinal-is d c.args.day c.date_of_day-date.ensures, length ∙ year_days-is d c.args.day c.date_of_day-date.ensures)

pub returns-clause-bound : goal.returns-clause-bound
returns-clause-bound c =
    let d = c.date_of_day-date.result in
    let f : FitsSigned w16 d.year = omega (arith, signed_arith, d.year_in) in
    let length = simp to_z-of_z at c.days_in_year-length.ensures in
    omega (arith, year_first-number c.args.day, year_after-number c.args.day, year_after_high c.args.day c.requires, c.day_of_year.ensures.value ∙ ordinal-is d c.args.day c.date_of_day-date.ensures, length ∙ year_days-is d c.args.day c.date_of_day-date.ensures)
