-- The bytes of one version file.
use Rattle.std.proofs.Common.{◌≡◌, ◌⊎◌, inl, inr, ℕ, ◌^◌, ◌<◌, nat_eq, Bool, true, false, List, [], ◌∷◌, ◌++◌, length, slice_index, refl, sym, ◌∙◌, ap, arith, eq-eqb}
use Rattle.std.specs.Int.{to_le_bytes, w64}
use Rattle.std.proofs.lemmas.Bool.{eqb-true}
use Rattle.qd_durable.specs.Places.{StandsAt}
use Rattle.qd_durable.proofs.Standing.{stands_back, stands_front, stands_join, stands_room}
use Rattle.qd_txnfile.specs.Versions.{HoldsVersion, IsClosed, IsOpenBelow, Version, body}

-- a number takes 8 bytes
pub number_long : (n : ℕ) → length (to_le_bytes w64 n) ≡ 8
number_long n = refl

-- the first byte
pub first_stands : (bytes : List ℕ) (gate : ℕ) → 0 < length bytes → slice_index bytes 0 ≡ gate → StandsAt bytes 0 (gate ∷ [])
first_stands [] gate some is = absurd (omega arith)
first_stands (b ∷ more) gate some is = ap (λ (g : ℕ). g ∷ []) is

pub first_is : (bytes : List ℕ) (gate : ℕ) → StandsAt bytes 0 (gate ∷ []) → slice_index bytes 0 ≡ gate
first_is [] gate stands = absurd (none (ap length stands))
  where
    none : ◌≡◌ {A = ℕ} 0 1 → ⊥
    none h = omega arith
first_is (b ∷ more) gate stands = ap (λ (l : List ℕ). slice_index l 0) stands

-- an open gate, and what is behind it
pub open_gate : (bytes part : List ℕ) → StandsAt bytes 0 (1 ∷ part) → StandsAt bytes 0 (1 ∷ [])
open_gate bytes part whole = stands_front bytes 0 (1 ∷ []) part whole

pub behind_gate : (bytes part : List ℕ) → StandsAt bytes 0 (1 ∷ part) → StandsAt bytes 1 part
behind_gate bytes part whole = stands_back bytes 0 (1 ∷ []) part whole

pub with_gate : (bytes part : List ℕ) → StandsAt bytes 0 (1 ∷ []) → StandsAt bytes 1 part → StandsAt bytes 0 (1 ∷ part)
with_gate bytes part gate behind = stands_join bytes 0 (1 ∷ []) part gate behind

-- a closed gate isn't open
pub closed_or_open : (bytes part : List ℕ) → IsClosed bytes → StandsAt bytes 0 (1 ∷ part) → ⊥
closed_or_open bytes part closed whole = closed.not_open (sym (first_is bytes closed.gate closed.there) ∙ first_is bytes 1 (open_gate bytes part whole))

-- a gate is open or not
pub judged : (bytes : List ℕ) → 0 < length bytes → IsClosed bytes ⊎ StandsAt bytes 0 (1 ∷ [])
judged bytes some = by (nat_eq (slice_index bytes 0) 1) refl
  where
    by : (opened : Bool) → nat_eq (slice_index bytes 0) 1 ≡ opened → IsClosed bytes ⊎ StandsAt bytes 0 (1 ∷ [])
    by true e = inr (first_stands bytes 1 some (eqb-true (slice_index bytes 0) 1 e))
    by false e = inl (record {
      gate = slice_index bytes 0;
      there = first_stands bytes (slice_index bytes 0) some refl;
      not_open = λ same. let h : nat_eq (slice_index bytes 0) 1 ≡ true = eq-eqb (slice_index bytes 0) 1 same in cc;
    })

-- the number of a version behind its gate
pub number_of_body : (bytes : List ℕ) (v : Version) → StandsAt bytes 1 (body v) → StandsAt bytes 1 (to_le_bytes w64 v.n)
number_of_body bytes v stands = stands_front bytes 1 (to_le_bytes w64 v.n) (to_le_bytes w64 (length v.manifest) ++ v.manifest) stands

-- a file with an older version behind its gate, whatever that is
pub older_of : (limit : ℕ) (bytes : List ℕ) (n : ℕ) → n < 2 ^ 64 → n < limit → StandsAt bytes 1 (to_le_bytes w64 n) → IsClosed bytes ⊎ IsOpenBelow limit bytes
older_of limit bytes n small below stands = by (judged bytes (omega (arith, stands_room bytes 1 (to_le_bytes w64 n) stands (omega (arith, number_long n)), number_long n)))
  where
    by : IsClosed bytes ⊎ StandsAt bytes 0 (1 ∷ []) → IsClosed bytes ⊎ IsOpenBelow limit bytes
    by (inl closed) = inl closed
    by (inr opened) = inr (record { n = n; small = small; below = below; open_gate = with_gate bytes (to_le_bytes w64 n) opened stands })

-- a file that holds a version is open for its number
pub open_for : (limit : ℕ) (bytes : List ℕ) (v : Version) → v.n < limit → HoldsVersion bytes v → IsOpenBelow limit bytes
open_for limit bytes v below holds = record {
  n = v.n;
  small = holds.number;
  below = below;
  open_gate = with_gate bytes (to_le_bytes w64 v.n) (open_gate bytes (body v) holds.open_gate) (number_of_body bytes v (behind_gate bytes (body v) holds.open_gate));
}
