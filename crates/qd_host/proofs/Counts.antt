-- A count of faults that another one's faults are added to: it never falls, and has risen where the other one had.
use Rattle.std.proofs.Common.{◌≡◌, ◌⊎◌, inl, inr, ℕ, ◌+◌, ◌-◌, ◌<◌, ◌≤◌, nat_le, cond, Bool, true, false, refl, arith}
use Rattle.std.proofs.lemmas.Bool.Decides.{nat_tests}
use Rattle.qd_io.specs.Ends.{HasRisen, counts_together, last_count}
use Rattle.qd_host.specs.Hosts.{risen}

pub never_falls : (count more : ℕ) → count ≤ counts_together count more
never_falls count more = omega arith

pub rises_by_some : (count more : ℕ) → 0 < more → HasRisen count (counts_together count more)
rises_by_some count more some = by (nat_le last_count count) refl
  where
    by : (at_end : Bool) → nat_le last_count count ≡ at_end → HasRisen count (counts_together count more)
    by true e = let le : last_count ≤ count = grind (arith, nat_tests) in inr (omega (arith, le))
    by false e = let less : count < last_count = grind (arith, nat_tests) in inl (omega (arith, less, some))

pub some_risen : (before now : ℕ) → HasRisen before now → 0 < risen before now
some_risen before now = by (nat_le last_count now) refl
  where
    by : (at_end : Bool) → nat_le last_count now ≡ at_end → HasRisen before now → 0 < cond at_end last_count (now - before)
    by true e rose = omega arith
    by false e (inl less) = omega (arith, less)
    by false e (inr end) = let less : now < last_count = grind (arith, nat_tests) in absurd (omega (arith, less, end))

pub rises_with : (count before now : ℕ) → HasRisen before now → HasRisen count (counts_together count (risen before now))
rises_with count before now rose = rises_by_some count (risen before now) (some_risen before now rose)

-- a count from 0 on rose by all of it, as far as counts go
pub risen_from_none : (now : ℕ) → now ≤ last_count → risen 0 now ≡ now
risen_from_none now within = by (nat_le last_count now) refl
  where
    by : (at_end : Bool) → nat_le last_count now ≡ at_end → cond at_end last_count (now - 0) ≡ now
    by true e = let le : last_count ≤ now = grind (arith, nat_tests) in omega (arith, le, within)
    by false e = omega arith

-- a count rises by what is added, unless it stands at its end
pub rises_by : (count more : ℕ) → (counts_together count more ≡ count + more) ⊎ (last_count ≤ counts_together count more)
rises_by count more = by (nat_le last_count (count + more)) refl
  where
    by : (past : Bool) → nat_le last_count (count + more) ≡ past → (counts_together count more ≡ count + more) ⊎ (last_count ≤ counts_together count more)
    by true e = let le : last_count ≤ count + more = grind (arith, nat_tests) in inr (omega (arith, le))
    by false e = let less : count + more < last_count = grind (arith, nat_tests) in inl (omega (arith, less))
