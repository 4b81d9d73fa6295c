use Rattle.std.proofs.Common.{rules, ◌≡◌, ◌≤◌, ◌∙◌, arith, pos}
use Rattle.std.proofs.Common.{to_z, w16}
use Rattle.std.proofs.lemmas.Int.{ints}
use Rattle.jiff_core.specs.Calendar.{days_in_month}
use Rattle.jiff_core.specs.Date.{epoch_day}
use Rattle.qd_time.specs.Calendar.{CalendarDate, day_number}
use Rattle.qd_time.proofs.CivilLemmas.{epoch_day-day_number, day_number-high}
use Rattle.qd_time.proofs.calendar.day_number.Goals as goal

-- jiff's day number of the date
number : (c : goal.After-to_unix_epoch_day) → let date : CalendarDate = record { year = c.args.year; month = c.args.month; day = c.args.day } in epoch_day c.constrain-date.result ≡ pos (day_number date)
number c =
    let date : CalendarDate = record { year = c.args.year; month = c.args.month; day = c.args.day } in
    let d = c.constrain-date.result in
    let is = c.requires.is_date in
    let wide : to_z w16 c.args.year ≡ pos c.args.year = omega (arith, ints) in
    let high : c.args.day ≤ days_in_month (pos c.args.year) c.args.month = is.day_high in
    let day = rw wide at c.constrain-date.ensures.day in
    epoch_day-day_number d date is (c.constrain-date.ensures.year ∙ wide) c.constrain-date.ensures.month (day ∙ omega arith)

-- and as the code has it
result_is : (c : goal.After-to_unix_epoch_day) → let date : CalendarDate = record { year = c.args.year; month = c.args.month; day = c.args.day } in c.to_unix_epoch_day.result ≡ pos (day_number date)
result_is c = c.to_unix_epoch_day.ensures.value ∙ number c

pub overflow_cast-result : goal.overflow_cast-result
overflow_cast-result c =
    let is = result_is c in
    rw is (let high = day_number-high _ c.requires.is_date c.requires.year_high in search rules)

pub returns-clause-value : goal.returns-clause-value
returns-clause-value c =
    let is = result_is c in
    rw is (let high = day_number-high _ c.requires.is_date c.requires.year_high in omega (arith, ints))

pub returns-clause-bound : goal.returns-clause-bound
returns-clause-bound c =
    let is = result_is c in
    rw is (let high = day_number-high _ c.requires.is_date c.requires.year_high in omega (arith, ints))
