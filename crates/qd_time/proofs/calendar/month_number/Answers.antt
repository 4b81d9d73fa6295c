use Rattle.std.proofs.Common.{arith, sym}
use Rattle.std.proofs.lemmas.Int.{ints}
use Rattle.qd_time.proofs.DateLemmas.{date_of_day-is}
use Rattle.qd_time.proofs.MonthLemmas.{month_number-end}
use Rattle.qd_time.proofs.calendar.month_number.Goals as goal

pub returns-then-day-gt-LAST_DAY-clause-value : goal.returns-then-day-gt-LAST_DAY-clause-value
returns-then-day-gt-LAST_DAY-clause-value c = sym (month_number-end c.args.day (omega arith))

pub overflow_sub-result : goal.overflow_sub-result
overflow_sub-result c =
    let low = (date_of_day-is c.args.day).0.year_low in
    omega (arith, ints, c.date_of_day-date.ensures.year)
