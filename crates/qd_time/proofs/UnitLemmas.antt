-- Units lie one after another, and each timestamp is in one of them.
use Rattle.std.proofs.Common.{ℕ, ◌+◌, ◌-◌, ◌*◌, ◌/◌, ◌<◌, ◌≤◌, ◌≡◌, inl, inr, true, false, nat_lt, cond, refl, sym, ap, ◌∙◌, arith}
use Rattle.std.proofs.Common.{Option, Some, None, IfSome, subst}
use Rattle.std.specs.Option.{SomeIff}
use Rattle.std.proofs.lemmas.Bool.{cases_lt, cases_order}
use Rattle.qd_time.specs.Calendar.{CalendarDate, IsCalendarDate, day_micros, month_first, month_after, year_first, year_after, midnight, date_of_day, day_number}
use Rattle.qd_time.specs.Units.{start_of, end_of}
use Rattle.qd_base.specs.declared.unit.TimeUnit.{TimeUnit}
use Rattle.qd_base.specs.declared.unit.TimeUnit.TheVariants.{Micro, Milli, Second, Minute, Hour, Day, Month, Year}
use Rattle.qd_time.proofs.DateLemmas.{date_of_day-is, first_is}
use Rattle.qd_time.proofs.DateOrderLemmas.{count-lt_year, count-month, count-day_number, day_of_year_high, date_of_day-unique, date_of_day-day_number, month_after_is_date, year_after_is_date, month_first-number, month_after-number, year_first-number, year_after-number}

-- the date of a day of the month of day n
in_month : (n m : ℕ) → day_number (month_first (date_of_day n)) ≤ m → m < day_number (month_after (date_of_day n)) → let d = date_of_day n in date_of_day m ≡ record { year = d.year; month = d.month; day = m - day_number (month_first d) + 1 }
in_month n m low high =
    let d = date_of_day n in
    let is = (date_of_day-is n).0 in
    let here : CalendarDate = record { year = d.year; month = d.month; day = m - day_number (month_first d) + 1 } in
    let here_is : IsCalendarDate here = record { year_low = is.year_low; month_low = is.month_low; month_high = is.month_high; day_low = omega arith; day_high = omega (arith, month_after-number n) } in
    let first = first_is d.year d.month is.year_low is.month_low is.month_high in
    date_of_day-unique m here here_is (omega (arith, count-month here (month_first d) here_is first refl refl, count-day_number (month_first d) first))

-- days of one month have one first day
same_month : (n m : ℕ) → day_number (month_first (date_of_day n)) ≤ m → m < day_number (month_after (date_of_day n)) → month_first (date_of_day m) ≡ month_first (date_of_day n)
same_month n m low high = ap month_first (in_month n m low high)

-- days of one year have one year
same_year : (n m : ℕ) → day_number (year_first (date_of_day n)) ≤ m → m < day_number (year_after (date_of_day n)) → (date_of_day m).year ≡ (date_of_day n).year
same_year n m low high =
    let d = date_of_day n in
    let e = date_of_day m in
    let d_is = date_of_day-is n in
    let e_is = date_of_day-is m in
    let first = first_is d.year 1 d_is.0.year_low (omega arith) (omega arith) in
    let next = first_is (d.year + 1) 1 (omega (arith, d_is.0.year_low)) (omega arith) (omega arith) in
    elim (cases_order e.year d.year) [
      | inl same ↦ same
      | inr (inl lt) ↦ absurd (omega (arith, e_is.1, count-lt_year e (year_first d) e_is.0 first lt, count-day_number (year_first d) first))
      | inr (inr gt) ↦ elim (cases_lt (d.year + 1) e.year) [
        | inl lt ↦ absurd (omega (arith, e_is.1, count-lt_year (year_after d) e next e_is.0 lt, count-day_number (year_after d) next))
        | inr ge ↦
            let year : d.year + 1 ≡ e.year = omega arith in
            let same : day_number (year_after d) ≡ day_number (year_first e) = ap (λ y. day_number (record { year = y; month = 1; day = 1 })) year in
            absurd (omega (arith, e_is.0.day_low, year_first-number m))
      ]
    ]

month_first-month_after : (d : CalendarDate) → month_first (month_after d) ≡ month_after d
month_first-month_after d =
    let inside : CalendarDate = record { year = d.year; month = d.month + 1; day = 1 } in
    let across : CalendarDate = record { year = d.year + 1; month = 1; day = 1 } in
    elim (nat_lt d.month 12) as (λ b. month_first (cond b inside across) ≡ cond b inside across) [ true ↦ refl | false ↦ refl ]

pub midnight_day : (n : ℕ) → n * day_micros / day_micros ≡ n
midnight_day n = omega arith

-- a unit begins at a timestamp or before it, and ends after it
pub in_unit : (u : TimeUnit) (ts : ℕ) → (start_of u ts ≤ ts) × (ts < end_of u ts)
in_unit Micro ts = (omega arith, omega arith)
in_unit Milli ts = (omega arith, omega arith)
in_unit Second ts = (omega arith, omega arith)
in_unit Minute ts = (omega arith, omega arith)
in_unit Hour ts = (omega arith, omega arith)
in_unit Day ts = (omega arith, omega arith)
in_unit Month ts =
    let n = ts / day_micros in
    let is = (date_of_day-is n).0 in
    let first = month_first-number n in
    (omega (arith, first, is.day_low), omega (arith, first, month_after-number n, is.day_high))
in_unit Year ts =
    let n = ts / day_micros in
    let is = (date_of_day-is n).0 in
    let first = year_first-number n in
    (omega (arith, first, is.day_low), omega (arith, first, year_after-number n, day_of_year_high (date_of_day n) is))

-- those from a unit's start to its end lie in that unit
pub start_of-within : (u : TimeUnit) (ts other : ℕ) → start_of u ts ≤ other → other < end_of u ts → start_of u other ≡ start_of u ts
start_of-within Micro ts other low high = omega arith
start_of-within Milli ts other low high = omega arith
start_of-within Second ts other low high = omega arith
start_of-within Minute ts other low high = omega arith
start_of-within Hour ts other low high = omega arith
start_of-within Day ts other low high = omega arith
start_of-within Month ts other low high =
    ap midnight (same_month (ts / day_micros) (other / day_micros) (omega arith) (omega arith))
start_of-within Year ts other low high =
    ap (λ y. midnight (record { year = y; month = 1; day = 1 })) (same_year (ts / day_micros) (other / day_micros) (omega arith) (omega arith))

-- the end of a unit is the start of the next one
pub start_of-end_of : (u : TimeUnit) (ts : ℕ) → start_of u (end_of u ts) ≡ end_of u ts
start_of-end_of Micro ts = refl
start_of-end_of Milli ts = omega arith
start_of-end_of Second ts = omega arith
start_of-end_of Minute ts = omega arith
start_of-end_of Hour ts = omega arith
start_of-end_of Day ts = omega arith
start_of-end_of Month ts =
    let n = ts / day_micros in
    let next = month_after (date_of_day n) in
    let there : date_of_day (end_of Month ts / day_micros) ≡ next = ap date_of_day (midnight_day (day_number next)) ∙ date_of_day-day_number next (month_after_is_date n) in
    ap (λ d. midnight (month_first d)) there ∙ ap midnight (month_first-month_after (date_of_day n))
start_of-end_of Year ts =
    let n = ts / day_micros in
    let next = year_after (date_of_day n) in
    let there : date_of_day (end_of Year ts / day_micros) ≡ next = ap date_of_day (midnight_day (day_number next)) ∙ date_of_day-day_number next (year_after_is_date n) in
    ap (λ d. midnight (year_first d)) there

-- what holds of a value holds where the value is there
pub IfSome-SomeIff : (r : Option ℕ) (P : Type 0) (v : ℕ) (Q : ℕ → Type 0) → SomeIff r P v → Q v → IfSome r Q
IfSome-SomeIff None P v Q h q = tt
IfSome-SomeIff (Some x) P v Q h q = subst Q (sym h.1) q
