use Rattle.std.proofs.Common.{arith, ◌∙◌}
use Rattle.qd_time.proofs.DateOrderLemmas.{year_first-number, ordinal-is}
use Rattle.qd_time.proofs.calendar.first_of_year.Goals as goal

pub overflow_sub-result-2 : goal.overflow_sub-result-2
overflow_sub-result-2 c =
    omega (arith, year_first-number c.args.day, c.day_of_year.ensures.value ∙ ordinal-is c.date_of_day.result c.args.day c.date_of_day.ensures)

pub returns-clause-value : goal.returns-clause-value
returns-clause-value c =
    omega (arith, year_first-number c.args.day, c.day_of_year.ensures.value ∙ ordinal-is c.date_of_day.result c.args.day c.date_of_day.ensures)
