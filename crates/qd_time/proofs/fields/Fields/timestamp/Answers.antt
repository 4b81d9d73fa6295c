use Rattle.std.proofs.Common.{rules, arith}
use Rattle.qd_time.specs.Fields.{civil_fields}
use Rattle.qd_time.specs.Spelled.{IsCivil}
use Rattle.qd_time.proofs.CivilLemmas.{civil_of-date, IsCalendarDate-from_civil}
use Rattle.qd_time.proofs.fields.Fields.timestamp.Goals as goal

pub day_number-requires : goal.day_number-requires
day_number-requires c =
    let civil : IsCivil (civil_fields c.args.self) = search rules in
    record { year_high = omega arith; is_date = IsCalendarDate-from_civil (civil_fields c.args.self) civil c.if-self-lt1970.false }

pub returns : goal.returns
returns c =
    let civil : IsCivil (civil_fields c.args.self) = search rules in
    let date = IsCalendarDate-from_civil (civil_fields c.args.self) civil c.if-self-lt1970.false in (
      civil_of-date _ c.day_number.result _ _ _ _ date c.day_number.ensures.value civil.hour_high civil.minute_high civil.second_high c.requires.micro_high,
      omega (arith, c.day_number.ensures.bound, civil.hour_high, civil.minute_high, civil.second_high, c.requires.micro_high),
    )
