-- What the first bytes of version files say of the files.
use Rattle.std.proofs.Common.{◌≡◌, ◌⊎◌, inl, inr, ℕ, zero, suc, ◌+◌, ◌^◌, ◌<◌, ◌≤◌, min, nat_le, Bool, true, false, List, [], ◌∷◌, length, take, drop, slice_index, refl, sym, ◌∙◌, ap, subst, arith, get_or}
use Rattle.std.specs.Int.{to_le_bytes, from_le_bytes, w64}
use Rattle.std.proofs.lemmas.Bool.Decides.{nat_tests}
use Rattle.std.proofs.lemmas.List.{length-take, length-take-le, take_all, take_at, get_or-take, get_or-drop}
use Rattle.std.proofs.lemmas.Nat.{le_bytes_8}
use Rattle.byteorder.specs.Endian.{little_number}
use Rattle.byteorder.specs.Numbers.{little_from-take}
use Rattle.qd_volume.specs.Calls.{GivesBytes}
use Rattle.qd_volume.specs.Disk.{Image}
use Rattle.qd_durable.specs.Places.{StandsAt}
use Rattle.qd_durable.proofs.Standing.{stands_kept, stands_room}
use Rattle.qd_txnfile.specs.declared.half.Half.{Half}
use Rattle.qd_txnfile.specs.declared.half.Half.TheVariants.{First, Second}
use Rattle.qd_txnfile.specs.declared.half.Other.{Other}
use Rattle.qd_txnfile.specs.declared.half.Other.TheVariants as other
use Rattle.qd_txnfile.specs.Versions.{IsClosed, IsOpenBelow, file_of, limit_of, other_of}
use Rattle.qd_txnfile.specs.Damage.{Cut, FirstShort, HasItsNumber, HasNoGate, HasNoNumber, IsCut, IsDamaged, NoFirst, NoSecond, NoneOpen, SecondShort}
use Rattle.qd_txnfile.specs.declared.reading.Choice.{Choice}
use Rattle.qd_txnfile.specs.declared.reading.Gate.{Gate}
use Rattle.qd_txnfile.specs.declared.reading.Gate.TheVariants as gate
use Rattle.qd_txnfile.specs.Reading.{IsChosen, IsGate, IsHeadOf, IsOtherFound}
use Rattle.qd_txnfile.proofs.Files.{number_long}

-- each of some bytes is a byte
abbrev pub AreBytes : List ℕ → Type 0
AreBytes bytes = (i : ℕ) → get_or bytes i 0 < 256

-- a read from the start into a buffer of 17 bytes
pub head_read : (bytes before after : List ℕ) (n : ℕ) → GivesBytes bytes 0 before after n → length before ≡ 17 → take n after ≡ take 17 bytes
head_read bytes before after n gives room =
    ap (λ (l : List ℕ). take n l) gives.buffer
    ∙ take_at (take n bytes) (drop n before) n (omega (arith, length-take n bytes, gives.most))
    ∙ by (nat_le 17 (length bytes)) refl
  where
    by : (full : Bool) → nat_le 17 (length bytes) ≡ full → take n bytes ≡ take 17 bytes
    by true e =
        let enough : 17 ≤ length bytes = grind (arith, nat_tests) in
        let full : n ≡ 17 = omega (arith, gives.most, room, enough) in
        ap (λ k. take k bytes) full
    by false e =
        let few : length bytes < 17 = grind (arith, nat_tests) in
        take_all n bytes (omega (arith, gives.most, room, few)) ∙ sym (take_all 17 bytes (omega (arith, few)))

-- a head is as long as its file, or 17 bytes
pub head_long : (head bytes : List ℕ) → IsHeadOf head bytes → length head ≡ min 17 (length bytes)
head_long head bytes is = ap length is ∙ length-take 17 bytes

-- what stands in a head stands in the file
pub lifted : (head bytes : List ℕ) (at : ℕ) (part : List ℕ) → IsHeadOf head bytes → StandsAt head at part → StandsAt bytes at part
lifted head bytes at part is stands =
    stands_kept head bytes at part (at + length part) 0 (omega (arith, head_long head bytes is))
    (λ place within outside. same place within) (inl (omega arith)) stands
  where
    same : (place : ℕ) → place < length head → slice_index bytes place ≡ slice_index head place
    same place within = sym (ap (λ (l : List ℕ). slice_index l place) is ∙ get_or-take 17 bytes place 0 (omega (arith, within, head_long head bytes is)))

pub lifted_closed : (head bytes : List ℕ) → IsHeadOf head bytes → IsClosed head → IsClosed bytes
lifted_closed head bytes is closed = record { gate = closed.gate; there = lifted head bytes 0 (closed.gate ∷ []) is closed.there; not_open = closed.not_open }

pub lifted_none : (head bytes : List ℕ) → IsHeadOf head bytes → HasNoGate head → HasNoGate bytes
lifted_none head [] is none = refl
lifted_none head (b ∷ more) is none = absurd (some (ap length none) (head_long head (b ∷ more) is))
  where
    some : length head ≡ 0 → length head ≡ min 17 (length (b ∷ more)) → ⊥
    some e f = omega arith

pub lifted_short : (head bytes : List ℕ) → IsHeadOf head bytes → HasNoNumber head → HasNoNumber bytes × (length head ≡ length bytes)
lifted_short head bytes is short =
    (record { open_gate = lifted head bytes 0 (1 ∷ []) is short.open_gate; short = omega (arith, head_long head bytes is, short.short) }, omega (arith, head_long head bytes is, short.short))

-- the 8 bytes of a number that was read
same_number : (bs : List ℕ) → little_number 8 bs ≡ from_le_bytes w64 bs
same_number bs = omega arith

bytes-drop : (n : ℕ) (bs : List ℕ) → AreBytes bs → AreBytes (drop n bs)
bytes-drop n bs h i = rw (get_or-drop n bs i 0) (h (n + i))

bytes-take : (n : ℕ) (bs : List ℕ) → AreBytes bs → AreBytes (take n bs)
bytes-take zero bs h i = omega arith
bytes-take (suc n) [] h i = omega arith
bytes-take (suc n) (b ∷ bs) h zero = h 0
bytes-take (suc n) (b ∷ bs) h (suc i) = bytes-take n bs (λ k. h (suc k)) i

pub number_stands : (bytes : List ℕ) (at n : ℕ) → AreBytes bytes → 8 ≤ length (drop at bytes) → n ≡ little_number 8 (drop at bytes) → StandsAt bytes at (to_le_bytes w64 n)
number_stands bytes at n known room is =
    let rest : List ℕ = drop at bytes in
    sym (le_bytes_8 (take 8 rest) n (length-take-le 8 rest room) (bytes-take 8 rest (bytes-drop at bytes known)) (is ∙ sym (little_from-take 0 8 8 rest (omega arith)) ∙ same_number (take 8 rest)))

-- a gate that is there is a byte
pub has_byte : (head : List ℕ) (found : Gate) → IsGate head found → (found ≡ gate.Missing → ⊥) → 0 < length head
has_byte head gate.Missing is not = absurd (not refl)
has_byte head gate.Closed is not = omega (arith, stands_room head 0 (is.gate ∷ []) is.there (omega arith))
has_byte head gate.Short is not = omega (arith, stands_room head 0 (1 ∷ []) is.open_gate (omega arith))
has_byte head (gate.Open n) is not = omega (arith, stands_room head 0 (1 ∷ to_le_bytes w64 n) is.1 (omega arith))

-- the first file's head, beside none of the second one
pub no_first : (first : List ℕ) (image : Image) → IsHeadOf first (image 2) → HasNoGate first → IsDamaged image 2 0
no_first first image a none = NoFirst (lifted_none first (image 2) a none)

-- a file with a closed gate, or with a number, has a byte
pub closed_some : (bytes : List ℕ) → IsClosed bytes → 0 < length bytes
closed_some bytes is = omega (arith, stands_room bytes 0 (is.gate ∷ []) is.there (omega arith))

pub open_long : (bytes : List ℕ) (n : ℕ) → StandsAt bytes 0 (1 ∷ to_le_bytes w64 n) → 9 ≤ length bytes
open_long bytes n is = omega (arith, stands_room bytes 0 (1 ∷ to_le_bytes w64 n) is (omega arith), number_long n)

pub short_some : (bytes : List ℕ) → HasNoNumber bytes → 0 < length bytes
short_some bytes is = omega (arith, stands_room bytes 0 (1 ∷ []) is.open_gate (omega arith))

-- what the second file's head says beside the first file
module _ (second : List ℕ) (image : Image) (b : IsHeadOf second (image 3)) where
  no_second : 0 < length (image 2) → HasNoGate second → IsDamaged image 3 0
  no_second some none = NoSecond some (lifted_none second (image 3) b none)

  second_short : HasItsNumber (image 2) → HasNoNumber second → IsDamaged image 3 (length second)
  second_short had short =
      let is = lifted_short second (image 3) b short in
      subst (λ n. IsDamaged image 3 n) (sym is.1) (SecondShort had is.0)

  -- the first file's gate is closed
  module _ (closed : IsClosed (image 2)) where
    pub closed_missing : HasNoGate second → IsDamaged image 3 0
    closed_missing none = no_second (closed_some (image 2) closed) none

    pub closed_closed : IsClosed second → IsDamaged image 2 0
    closed_closed two = NoneOpen closed (lifted_closed second (image 3) b two)

    pub closed_short : HasNoNumber second → IsDamaged image 3 (length second)
    closed_short short = second_short (inl closed) short

    pub closed_open : (n : ℕ) → (n < 2 ^ 64) × StandsAt second 0 (1 ∷ to_le_bytes w64 n) → IsChosen Second n other.Closed image
    closed_open n is = record { number = is.0; open_gate = lifted second (image 3) 0 (1 ∷ to_le_bytes w64 n) b is.1; other = closed }

  -- it is open, without a number
  module _ (short : HasNoNumber (image 2)) where
    pub short_missing : HasNoGate second → IsDamaged image 3 0
    short_missing none = no_second (short_some (image 2) short) none

    pub short_there : (len : ℕ) → len ≡ length (image 2) → (found : Gate) → IsGate second found → (found ≡ gate.Missing → ⊥) → IsDamaged image 2 len
    short_there len is found says not = subst (λ n. IsDamaged image 2 n) (sym is) (FirstShort short (omega (arith, has_byte second found says not, head_long second (image 3) b)))

  -- it is open for a number
  module _ (n : ℕ) (small : n < 2 ^ 64) (opened : StandsAt (image 2) 0 (1 ∷ to_le_bytes w64 n)) where
    pub open_missing : HasNoGate second → IsDamaged image 3 0
    open_missing none = no_second (omega (arith, open_long (image 2) n opened)) none

    pub open_closed : IsClosed second → IsChosen First n other.Closed image
    open_closed closed = record { number = small; open_gate = opened; other = lifted_closed second (image 3) b closed }

    pub open_short : HasNoNumber second → IsDamaged image 3 (length second)
    open_short short = second_short (inr (open_long (image 2) n opened)) short

    module _ (m : ℕ) (is : (m < 2 ^ 64) × StandsAt second 0 (1 ∷ to_le_bytes w64 m)) where
      first_newer : m ≤ n → IsChosen First n other.Older image
      first_newer le = record {
        number = small;
        open_gate = opened;
        other = record { n = m; small = is.0; below = omega (arith, le); open_gate = lifted second (image 3) 0 (1 ∷ to_le_bytes w64 m) b is.1 };
      }

      second_newer : n < m → IsChosen Second m other.Older image
      second_newer lt = record {
        number = is.0;
        open_gate = lifted second (image 3) 0 (1 ∷ to_le_bytes w64 m) b is.1;
        other = record { n = n; small = small; below = lt; open_gate = opened };
      }

      pub open_open : (choice : Choice) → (m ≤ n → choice ≡ record { half = First; n = n; other = other.Older }) → (n < m → choice ≡ record { half = Second; n = m; other = other.Older }) → IsChosen choice.half choice.n choice.other image
      open_open choice one two = by (nat_le m n) refl
        where
          by : (le : Bool) → nat_le m n ≡ le → IsChosen choice.half choice.n choice.other image
          by true e =
              let h : m ≤ n = grind (arith, nat_tests) in
              subst (λ (c : Choice). IsChosen c.half c.n c.other image) (sym (one h)) (first_newer h)
          by false e =
              let h : n < m = grind (arith, nat_tests) in
              subst (λ (c : Choice). IsChosen c.half c.n c.other image) (sym (two h)) (second_newer h)

-- what is chosen is cut
pub older_found : (known : Other) (limit : ℕ) (bytes : List ℕ) → IsOtherFound known limit bytes → IsClosed bytes ⊎ IsOpenBelow limit bytes
older_found other.Older limit bytes is = inr is
older_found other.Closed limit bytes is = inl is
older_found (other.Written n) limit bytes is = absurd is
older_found (other.Opening n) limit bytes is = absurd is

pub chosen_cut : (half : Half) (n : ℕ) (known : Other) (image : Image) → IsChosen half n known image → IsCut (image (file_of half)) → IsDamaged image (file_of half) (length (image (file_of half)))
chosen_cut half n known image chosen cut = Cut half (record { n = n; number = chosen.number; open_gate = chosen.open_gate; older = older_found known (limit_of half n) (image (file_of (other_of half))) chosen.other; cut = cut })

-- the head of the one chosen is short
pub head_cut : (half : Half) (n : ℕ) (known : Other) (image : Image) (head : List ℕ) → IsHeadOf head (image (file_of half)) → IsChosen half n known image → length head < 17 → IsDamaged image (file_of half) (length head)
head_cut half n known image head is chosen short =
    let long = head_long head (image (file_of half)) is in
    subst (λ k. IsDamaged image (file_of half) k) (omega (arith, long, short)) (chosen_cut half n known image chosen (inl (omega (arith, long, short))))
