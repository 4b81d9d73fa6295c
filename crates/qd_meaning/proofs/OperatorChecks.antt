-- The worked examples of operators, by computation.
use Rattle.std.proofs.Common.{refl}
use Rattle.std.specs.Fmt.{digits}
use Rattle.jiff_core.specs.Calendar.{days_of_years, days_of_months, day_count}
use Rattle.qd_time.specs.Calendar.{date_of_day}
use Rattle.qd_time.specs.Buckets.{last_index}
use Rattle.qd_meaning.specs.OperatorExamples.{OperatorsGive, SamplesGive}

pub operators-give : OperatorsGive
unfolding date_of_day digits
operators-give =
    record {
      asof = refl;
      lt = refl;
      latest = refl;
      order = refl;
      descending = refl;
      last_two = refl;
      between = refl;
      none_between = refl;
      names = refl;
      partition = refl;
    }

pub samples-give : SamplesGive
unfolding date_of_day last_index days_of_years days_of_months day_count
samples-give = record { unfilled = refl; null = refl; before = refl; number = refl; offset = refl; months = refl; observation = refl; no_rows = refl }
