-- How far apart the same days of months are: 28 days a month at least, and 365 days a year.
use Rattle.std.proofs.Common.{◌≡◌, ℕ, zero, suc, ◌+◌, ◌-◌, ◌*◌, ◌/◌, ◌%◌, ◌≤◌, cond, eqb, min, refl, sym, ap, ap₂, ◌∙◌, arith, pos, inl, inr}
use Rattle.std.specs.Prelude.{◌||◌}
use Rattle.std.proofs.lemmas.Bool.{cases_lt}
use Rattle.jiff_core.specs.Calendar.{days_in_month, day_count}
use Rattle.jiff_core.proofs.CalendarLemmas.{day_count-day, day_count-next_month, days_in_month_bounds}
use Rattle.qd_time.proofs.DateLemmas.{count-next_year}

-- months are counted from January 1970: how many days one has, and what stands before its first
abbrev pub length_of : ℕ → ℕ
length_of m = days_in_month (pos (1970 + m / 12)) (m % 12 + 1)

abbrev pub first_of : ℕ → ℕ
first_of m = day_count (pos (1970 + m / 12)) (m % 12 + 1) 1

-- the days that the months of a year have at least
abbrev least : ℕ → ℕ
least m = cond (eqb m 1) 28 (cond (eqb m 3 || eqb m 5 || eqb m 8 || eqb m 10) 30 31)

-- of the first months together
abbrev before : ℕ → ℕ
before zero = 0
before (suc m) = before m + least (m % 12)

least_low : (m : ℕ) → 28 ≤ least m
least_low m = grind arith

least_length : (m : ℕ) → least (m % 12) ≤ length_of m
least_length m = by (m % 12)
  where
    by : (r : ℕ) → least r ≤ days_in_month (pos (1970 + m / 12)) (r + 1)
    by r = grind arith

before_year : (m : ℕ) → before (m + 12) ≡ before m + 365
before_year zero = refl
before_year (suc m) =
    let same : (m + 12) % 12 ≡ m % 12 = omega arith in
    let there : suc m + 12 ≡ suc (m + 12) = omega arith in
    let later : before (suc m + 12) ≡ before (m + 12) + least ((m + 12) % 12) = ap before there in
    omega (arith, before_year m, ap least same, later)

before_years : (m j : ℕ) → before (m + 12 * j) ≡ before m + 365 * j
before_years m zero =
    let none : m + 12 * 0 ≡ m = omega arith in
    omega (arith, ap before none)
before_years m (suc j) =
    let there : m + 12 * suc j ≡ m + 12 * j + 12 = omega arith in
    omega (arith, ap before there, before_year (m + 12 * j), before_years m j)

plus_none : (k : ℕ) → k + 0 ≡ k
plus_none k = omega arith

before_months : (m j : ℕ) → before m + 28 * j ≤ before (m + j)
before_months m zero = omega (arith, ap before (plus_none m))
before_months m (suc j) =
    let there : m + suc j ≡ suc (m + j) = omega arith in
    let later : before (m + suc j) ≡ before (m + j) + least ((m + j) % 12) = ap before there in
    omega (arith, before_months m j, least_low ((m + j) % 12), later)

-- the next month begins behind a month's last day
first_next : (m : ℕ) → first_of (m + 1) ≡ first_of m + length_of m
first_next m =
    let y = 1970 + m / 12 in
    elim (cases_lt (m % 12) 11) [
      | inl less ↦
          let year : 1970 + (m + 1) / 12 ≡ 1970 + m / 12 = omega arith in
          let month : (m + 1) % 12 + 1 ≡ m % 12 + 1 + 1 = omega arith in
          ap₂ (λ a b. day_count (pos a) b 1) year month ∙ day_count-next_month (pos y) (m % 12 + 1) (omega arith)
      | inr last ↦
          let year : 1970 + (m + 1) / 12 ≡ 1970 + m / 12 + 1 = omega arith in
          let month : (m + 1) % 12 + 1 ≡ 1 = omega arith in
          let december : m % 12 + 1 ≡ 12 = omega arith in
          let whole : day_count (pos y) 12 31 + 1 ≡ day_count (pos y) 12 1 + days_in_month (pos y) 12 = omega (arith, day_count-day (pos y) 12 31 1 (omega arith) (omega arith)) in
          ap₂ (λ a b. day_count (pos a) b 1) year month
          ∙ count-next_year y
          ∙ whole
          ∙ sym (ap (λ b. day_count (pos y) b 1 + days_in_month (pos y) b) december)
    ]

firsts : (m j : ℕ) → first_of m + before (m + j) ≤ first_of (m + j) + before m
firsts m zero = omega (arith, ap first_of (plus_none m), ap before (plus_none m))
firsts m (suc j) =
    let next : m + suc j ≡ m + j + 1 = omega arith in
    let there : m + suc j ≡ suc (m + j) = omega arith in
    let later : before (m + suc j) ≡ before (m + j) + least ((m + j) % 12) = ap before there in
    omega (arith, firsts m j, first_next (m + j), least_length (m + j), ap first_of next, later)

-- the day of a month, or its last
abbrev pub day_in : ℕ → ℕ → ℕ
day_in m d = day_count (pos (1970 + m / 12)) (m % 12 + 1) (min d (length_of m))

day_in-first : (m d : ℕ) → 1 ≤ d → day_in m d + 1 ≡ first_of m + min d (length_of m)
day_in-first m d low =
    let long = days_in_month_bounds (pos (1970 + m / 12)) (m % 12 + 1) in
    omega (arith, day_count-day (pos (1970 + m / 12)) (m % 12 + 1) (min d (length_of m)) 1 (omega arith) (omega arith))

-- a month and more on
ahead : (m j d : ℕ) → 1 ≤ d → day_in m d + length_of m + before (m + 1 + j) + min d (length_of (m + 1 + j)) ≤ day_in (m + 1 + j) d + before (m + 1) + min d (length_of m)
ahead m j d low = omega (arith, day_in-first m d low, day_in-first (m + 1 + j) d low, firsts (m + 1) j, first_next m)

pub months_apart : (m n d : ℕ) → 1 ≤ d → 1 ≤ n → day_in m d + 28 * n ≤ day_in (m + n) d
months_apart m n d low some =
    let there : m + 1 + (n - 1) ≡ m + n = omega arith in
    let here = days_in_month_bounds (pos (1970 + m / 12)) (m % 12 + 1) in
    let later = days_in_month_bounds (pos (1970 + (m + 1 + (n - 1)) / 12)) ((m + 1 + (n - 1)) % 12 + 1) in
    omega (arith, ahead m (n - 1) d low, before_months (m + 1) (n - 1), ap (λ k. day_in k d) there)

pub years_apart : (m n d : ℕ) → 1 ≤ d → 1 ≤ n → day_in m d + 365 * n ≤ day_in (m + 12 * n) d
years_apart m n d low some =
    let there : m + 1 + (12 * n - 1) ≡ m + 12 * n = omega arith in
    let same : (m + 1 + (12 * n - 1)) % 12 ≡ m % 12 = omega arith in
    let after : m + 1 ≡ suc m = omega arith in
    let first : before (m + 1) ≡ before m + least (m % 12) = ap before after in
    omega (arith, ahead m (12 * n - 1) d low, before_years m n, ap before there, ap (λ k. day_in k d) there, least_length m, least_length (m + 1 + (12 * n - 1)), ap least same, first)
