use Rattle.std.proofs.Common.{arith, ap, sym, ◌∙◌, ◌≡◌, ◌+◌}
use Rattle.qd_time.specs.Buckets.{day_of_month}
use Rattle.qd_time.specs.Calendar.{day_number}
use Rattle.qd_time.specs.declared.calendar.TheConstants.{LAST_MONTH}
use Rattle.qd_time.proofs.MonthLemmas.{day_of_month-end}
use Rattle.qd_time.proofs.buckets.first_of.Goals as goal

pub returns-then-month-gt-LAST_MONTH-clause-value : goal.returns-then-month-gt-LAST_MONTH-clause-value
returns-then-month-gt-LAST_MONTH-clause-value c =
    let last : c.args.month ≡ LAST_MONTH + 1 = omega arith in
    sym (ap (λ m. day_number (day_of_month m 1)) last ∙ day_of_month-end)
