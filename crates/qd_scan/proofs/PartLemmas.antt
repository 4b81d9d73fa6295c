-- Parts in order of time that share no time.
use Rattle.std.proofs.Common.{◌≡◌, ℕ, zero, suc, ◌+◌, ◌<◌, ◌≤◌, inl, inr, List, length, get_or, arith, All, subst}
use Rattle.std.specs.List.Sorted.{IsNonDecreasingBy}
use Rattle.std.proofs.lemmas.Bool.{cases_lt}
use Rattle.std.proofs.lemmas.List.Sorted.{IsNonDecreasingBy-from_default}
use Rattle.qd_base.specs.declared.part.Part.{Part}
use Rattle.qd_base.specs.declared.schema.Schema.{Schema}
use Rattle.qd_manifest.specs.Spelling.{AreParts, no_part}
use Rattle.qd_scan.specs.Scans.{AreApart}

pub are_apart : (s : Schema) (parts : List Part) → AreParts s parts → AreApart parts
are_apart s parts are = record { each = λ k d lt. (are.each k d lt).in_order; apart = are.apart }

abbrev at : List Part → ℕ → Part
at parts k = get_or parts k no_part

one_more : (k : ℕ) → k + 1 ≡ suc k
one_more k = omega arith

-- each part ends before every later one begins
pub ends_before : (parts : List Part) → AreApart parts → (j k : ℕ) → j < k → k < length parts → (get_or parts j no_part).hi < (get_or parts k no_part).lo
ends_before parts are j zero low high = absurd (omega arith)
ends_before parts are j (suc k) low high =
    let next : (at parts k).hi < (at parts (suc k)).lo = subst (λ (n : ℕ). (at parts k).hi < (at parts n).lo) (one_more k) (are.apart k (omega arith)) in
    elim (cases_lt j k) [
      | inl lt ↦ let before = ends_before parts are j k lt (omega arith) in let in' = are.each k no_part (omega arith) in omega (arith, before, in', next)
      | inr ge ↦ let same : k ≡ j = omega arith in subst (λ (n : ℕ). (at parts n).hi < (at parts (suc k)).lo) same next
    ]

pub ends_rise : (parts : List Part) → AreApart parts → IsNonDecreasingBy (λ (p : Part). p.hi) parts
ends_rise parts are =
    IsNonDecreasingBy-from_default (λ (p : Part). p.hi) parts no_part
    (λ i j low high. elim (cases_lt i j) [
      | inl lt ↦ let before = ends_before parts are i j lt high in let in' = are.each j no_part high in omega (arith, before, in')
      | inr ge ↦ let same : i ≡ j = omega arith in subst (λ (n : ℕ). (at parts i).hi ≤ (at parts n).hi) same (omega arith)
    ])

pub begins_rise : (parts : List Part) → AreApart parts → IsNonDecreasingBy (λ (p : Part). p.lo) parts
begins_rise parts are =
    IsNonDecreasingBy-from_default (λ (p : Part). p.lo) parts no_part
    (λ i j low high. elim (cases_lt i j) [
      | inl lt ↦ let before = ends_before parts are i j lt high in let in' = are.each i no_part (omega arith) in omega (arith, before, in')
      | inr ge ↦ let same : i ≡ j = omega arith in subst (λ (n : ℕ). (at parts i).lo ≤ (at parts n).lo) same (omega arith)
    ])
