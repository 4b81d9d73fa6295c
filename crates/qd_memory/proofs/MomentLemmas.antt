-- Partitions and the moments in them.
use Rattle.std.proofs.Common.{◌≡◌, ℕ, ◌+◌, ◌<◌, ◌≤◌, inl, inr, sym, ◌∙◌, arith}
use Rattle.std.proofs.lemmas.Bool.{cases_lt}
use Rattle.qd_base.specs.declared.unit.TimeUnit.{TimeUnit}
use Rattle.qd_time.specs.Units.{end_of, start_of}
use Rattle.qd_time.proofs.UnitLemmas.{in_unit, start_of-within}

-- a moment of an earlier partition is earlier
pub start_before : (u : TimeUnit) (a b : ℕ) → start_of u a < start_of u b → a < b
start_before u a b lt =
    let ia = in_unit u a in
    let ib = in_unit u b in
    elim (cases_lt a b) [
      | inl below ↦ below
      | inr ge ↦ absurd (elim (cases_lt b (start_of u a)) [
        | inl low ↦ omega (arith, ib.0, low, lt)
        | inr inside ↦ let same = start_of-within u a b inside (omega (arith, ia.1, ge)) in omega (arith, same, lt)
      ])
    ]

-- a moment between two of one partition lies in it
pub start_between : (u : TimeUnit) (lo hi t : ℕ) → start_of u lo ≡ start_of u hi → lo ≤ t → t ≤ hi → start_of u t ≡ start_of u lo
start_between u lo hi t same low high =
    let a = in_unit u lo in
    let b = in_unit u hi in
    start_of-within u hi t (omega (arith, a.0, same, low)) (omega (arith, b.1, high)) ∙ sym same

-- a moment behind another and before the end of its partition lies in it
pub start_inside : (u : TimeUnit) (first t : ℕ) → first ≤ t → t < end_of u first → start_of u t ≡ start_of u first
start_inside u first t low high = let a = in_unit u first in start_of-within u first t (omega (arith, a.0, low)) high

-- a moment from which a partition starts, and one behind it, lie in later ones than those before
pub start_later : (u : TimeUnit) (time e t : ℕ) → time < e → start_of u e ≡ e → e ≤ t → start_of u time < start_of u t
start_later u time e t before starts behind =
    let a = in_unit u time in
    let b = in_unit u t in
    elim (cases_lt (start_of u t) e) [
      | inl low ↦ absurd (let same = start_of-within u t e (omega (arith, low)) (omega (arith, b.1, behind)) in omega (arith, same, starts, low))
      | inr ge ↦ omega (arith, a.0, before, ge)
    ]
