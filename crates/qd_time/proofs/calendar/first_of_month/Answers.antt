use Rattle.std.proofs.Common.{arith}
use Rattle.qd_time.proofs.DateOrderLemmas.{month_first-number}
use Rattle.qd_time.proofs.calendar.first_of_month.Goals as goal

pub overflow_sub-result-2 : goal.overflow_sub-result-2
overflow_sub-result-2 c = omega (arith, month_first-number c.args.day, c.date_of_day.ensures)

pub returns-clause-value : goal.returns-clause-value
returns-clause-value c = omega (arith, month_first-number c.args.day, c.date_of_day.ensures)
