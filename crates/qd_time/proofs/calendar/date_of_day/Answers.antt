use Rattle.std.proofs.Common.{arith}
use Rattle.jiff_core.proofs.SignedLemmas.{signed_arith}
use Rattle.qd_time.proofs.DateLemmas.{IsDateOfDay-epoch_day}
use Rattle.qd_time.proofs.calendar.date_of_day.Goals as goal

pub returns : goal.returns
returns c =
    IsDateOfDay-epoch_day c.from_days_since_min.result c.args.day c.requires (omega (arith, signed_arith, c.from_days_since_min.ensures))
