-- Moments at which partitions begin and end.
use Rattle.std.proofs.Common.{◌≡◌, ℕ, ◌+◌, ◌<◌, ◌≤◌, inl, inr, sym, ◌∙◌, arith}
use Rattle.std.proofs.lemmas.Bool.{cases_lt}
use Rattle.qd_base.specs.declared.limits.TheConstants.{MAX_TIME}
use Rattle.qd_base.specs.declared.unit.TimeUnit.{TimeUnit}
use Rattle.qd_time.specs.Units.{end_of, start_of}
use Rattle.qd_time.proofs.UnitLemmas.{in_unit, start_of-end_of, start_of-within}
use Rattle.qd_merge.specs.Acts.{partition_end}
use Rattle.qd_merge.proofs.Plans.{end_cases, start_fixed}

-- the end of a partition, as far as moments go, is behind its moments
pub end_behind : (u : TimeUnit) (t : ℕ) → t ≤ MAX_TIME → t < partition_end u t
end_behind u t few = let i = in_unit u t in elim (end_cases u t) [ inl h ↦ let e = h.1 in omega (arith, e, i.1) | inr h ↦ let e = h.1 in omega (arith, e, few) ]

pub end_few : (u : TimeUnit) (t : ℕ) → partition_end u t ≤ MAX_TIME + 1
end_few u t = elim (end_cases u t) [ inl h ↦ let e = h.1 in let le = h.0 in omega (arith, e, le) | inr h ↦ let e = h.1 in omega (arith, e) ]

pub end_upto : (u : TimeUnit) (t : ℕ) → partition_end u t ≤ end_of u t
end_upto u t = elim (end_cases u t) [ inl h ↦ let e = h.1 in omega (arith, e) | inr h ↦ let e = h.1 in let lt = h.0 in omega (arith, e, lt) ]

-- a moment from the start of a partition on and before its end lies in it
pub lies_in : (u : TimeUnit) (a t : ℕ) → start_of u a ≤ t → t < partition_end u a → start_of u t ≡ start_of u a
lies_in u a t low high = let e = end_upto u a in start_of-within u a t low (omega (arith, e, high))

-- the partition of a moment behind another one's end begins behind it
pub starts_behind : (u : TimeUnit) (a t : ℕ) → partition_end u a ≤ t → t ≤ MAX_TIME → partition_end u a ≤ start_of u t
starts_behind u a t late few = elim (end_cases u a) [
  | inl h ↦ (let e = h.1 in
      let it = in_unit u t in
      elim (cases_lt (start_of u t) (end_of u a)) [
        | inl low ↦ absurd (let same = start_of-within u t (end_of u a) (omega (arith, low)) (omega (arith, it.1, late, e)) in let there = start_of-end_of u a in omega (arith, same, there, low))
        | inr ge ↦ omega (arith, e, ge)
      ])
  | inr h ↦ absurd (let e = h.1 in omega (arith, e, late, few))
]

-- the partition of a moment before a later one's start ends before that
pub ends_before : (u : TimeUnit) (t b : ℕ) → b ≤ MAX_TIME → t < start_of u b → partition_end u (start_of u t) ≤ start_of u b
ends_before u t b few lt =
    let it = in_unit u t in
    let ib = in_unit u b in
    let s = start_of u t in
    let q = start_of u b in
    let fixed : start_of u s ≡ s = start_fixed u t in
    let up = end_upto u s in
    elim (cases_lt q (end_of u s)) [
      | inl inside ↦ absurd (let same = start_of-within u s q (omega (arith, fixed, it.0, lt)) inside in let there = start_fixed u b in omega (arith, same, there, fixed, it.0, lt))
      | inr ge ↦ omega (arith, up, ge)
    ]

-- one partition has one end
pub same_end : (u : TimeUnit) (t : ℕ) → t ≤ MAX_TIME → t < partition_end u (start_of u t)
same_end u t few =
    let it = in_unit u t in
    let s = start_of u t in
    let fixed : start_of u s ≡ s = start_fixed u t in
    elim (end_cases u s) [
      | inl h ↦ (let e = h.1 in
          elim (cases_lt t (end_of u s)) [
            | inl lt ↦ omega (arith, e, lt)
            | inr ge ↦ absurd (Rattle.qd_merge.proofs.Plans.past_end u s t ge (sym fixed))
          ])
      | inr h ↦ (let e = h.1 in omega (arith, e, few))
    ]

-- a moment of an earlier partition is earlier
pub start_before : (u : TimeUnit) (a b : ℕ) → start_of u a < start_of u b → a < b
start_before u a b lt =
    let ia = in_unit u a in
    let ib = in_unit u b in
    elim (cases_lt a b) [
      | inl below ↦ below
      | inr ge ↦ absurd (elim (cases_lt b (start_of u a)) [
        | inl low ↦ omega (arith, ib.0, low, lt)
        | inr inside ↦ let same = start_of-within u a b inside (omega (arith, ia.1, ge)) in omega (arith, same, lt)
      ])
    ]

-- a moment between two of one partition lies in it
pub start_between : (u : TimeUnit) (lo hi t : ℕ) → start_of u lo ≡ start_of u hi → lo ≤ t → t ≤ hi → start_of u t ≡ start_of u lo
start_between u lo hi t same low high =
    let a = in_unit u lo in
    let b = in_unit u hi in
    start_of-within u hi t (omega (arith, a.0, same, low)) (omega (arith, b.1, high)) ∙ sym same

-- moments of one partition have one end
pub within_end : (u : TimeUnit) (lo hi : ℕ) → start_of u lo ≡ start_of u hi → hi ≤ MAX_TIME → hi < partition_end u lo
within_end u lo hi same few =
    let ih = in_unit u hi in
    elim (end_cases u lo) [
      | inl h ↦ (let e = h.1 in
          elim (cases_lt hi (end_of u lo)) [
            | inl lt ↦ omega (arith, e, lt)
            | inr ge ↦ absurd (Rattle.qd_merge.proofs.Plans.past_end u lo hi ge (sym same))
          ])
      | inr h ↦ (let e = h.1 in omega (arith, e, few))
    ]
