-- What a clock shows and what a call of it does.
--
-- A time is a number of microseconds since 1970-01-01T00:00:00Z, as POSIX counts seconds since the Epoch, which have no leap
-- seconds (The Open Group Base Specifications, "Seconds Since the Epoch" and clock_gettime() with CLOCK_REALTIME).
use Rattle.std.specs.Prelude.{◌≡◌, ℕ, List, [], drop, slice_index_or, Option, None, Some, Result, Ok, Err}

-- The times that the calls of a clock give: those that are coming, one a call, and behind them the last one, again and again.
pub record Times : Type 0 where
  pub coming : List ℕ
  pub last : ℕ

-- the time that the next call gives
abbrev pub next_time : Times → ℕ
next_time times = slice_index_or times.coming 0 times.last

-- the times that are left once the next one is given
abbrev pub after_time : Times → Times
after_time times = record times { coming = drop 1 times.coming }

-- the same time at each call
abbrev pub always : ℕ → Times
always time = record { coming = []; last = time }

-- What a clock shows at a moment.
pub record Timeline : Type 0 where
  -- the times that its calls give, where it tells them
  pub ahead : Option Times
  -- how many of its calls have failed
  pub faults : ℕ

-- A call of a clock that tells its times gives the next one, or none where it fails: then the same times are ahead.
abbrev pub GivesTime : {E : Type 0} → Option Times → Option Times → Result ℕ E → Type 0
GivesTime None now result = Unit {0}
GivesTime (Some times) now (Ok time) = (time ≡ next_time times) × (now ≡ Some (after_time times))
GivesTime (Some times) now (Err fault) = now ≡ Some times
