-- The parts of a text's moment as what the calendar and the clock show, and the timestamp of them.
use Rattle.std.specs.Prelude.{◌≡◌, ℕ, ◌<◌, ◌≤◌, Result, Ok, Err}
use Rattle.qd_time.specs.Calendar.{Civil, civil_of}
use Rattle.qd_time.specs.Spelled.{IsCivil}
use Rattle.qd_base.specs.declared.limits.TheConstants.{MAX_TIME}
use Rattle.qd_time.specs.declared.fault.TimeFault.{TimeFault}
use Rattle.qd_time.specs.declared.fault.TimeFault.TheVariants.{Form, Range}
use Rattle.qd_time.specs.declared.fields.Fields.{Fields}

abbrev pub civil_fields : Fields → Civil
civil_fields f = record {
  date = record { year = f.year; month = f.month; day = f.day };
  hour = f.hour;
  minute = f.minute;
  second = f.second;
  micro = f.micro;
}

-- the timestamp at which they are shown, or why there is none
abbrev pub TimestampOf : Civil → Result ℕ TimeFault → Type 0
TimestampOf c (Ok ts) = (civil_of ts ≡ c) × (ts ≤ MAX_TIME)
TimestampOf c (Err Form) = ¬ (IsCivil c)
TimestampOf c (Err Range) = IsCivil c × (c.date.year < 1970)
