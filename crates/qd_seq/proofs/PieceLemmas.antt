-- What stands in a piece of some bytes, and in what is read of them.
use Rattle.std.proofs.Common.{◌≡◌, ℕ, zero, suc, ◌+◌, ◌<◌, ◌≤◌, nat_le, Bool, true, false, List, [], ◌∷◌, ◌++◌, length, take, drop, Option, None, Some, IfSome, refl, sym, ◌∙◌, ap, subst, arith, get_or, length-drop}
use Rattle.std.specs.Int.{to_le_bytes, from_le_bytes, w32, w64}
use Rattle.std.proofs.lemmas.Bool.Decides.{nat_tests}
use Rattle.std.proofs.lemmas.List.{length-take, length-take-le, take-append-drop, take_all, take_at, get_or-drop}
use Rattle.std.proofs.lemmas.Nat.{le_bytes_4, le_bytes_8}
use Rattle.byteorder.specs.Endian.{little_number}
use Rattle.byteorder.specs.Numbers.{little_from-take}
use Rattle.qd_volume.specs.Calls.{GivesBytes}
use Rattle.qd_volume.specs.Disk.{Disk}
use Rattle.qd_durable.specs.Places.{StandsAt}
use Rattle.qd_durable.proofs.Standing.{stands_back, stands_front, stands_join}

-- each of some bytes is a byte
abbrev pub AreBytes : List ℕ → Type 0
AreBytes bytes = (i : ℕ) → get_or bytes i 0 < 256

-- facts of a told volume
pub some_of : (P Q : Disk → Type 0) (disk : Option Disk) → ((d : Disk) → P d → Q d) → IfSome disk P → IfSome disk Q
some_of P Q None words has = has
some_of P Q (Some d) words has = words d has

pub some_both : (P Q R : Disk → Type 0) (disk : Option Disk) → ((d : Disk) → P d → Q d → R d) → IfSome disk P → IfSome disk Q → IfSome disk R
some_both P Q R None words one two = one
some_both P Q R (Some d) words one two = words d one two

pub some_all : (P : Disk → Type 0) (disk : Option Disk) → ((d : Disk) → P d) → IfSome disk P
some_all P None all = tt
some_all P (Some d) all = all d

-- no bytes
pub none_left : (bytes : List ℕ) → length bytes ≡ 0 → bytes ≡ []
none_left [] none = refl
none_left (b ∷ more) none = absurd (omega (arith, none))

-- what stands in a piece at its start
pub stands_through : (bytes : List ℕ) (at : ℕ) (piece part : List ℕ) → StandsAt bytes at piece → StandsAt piece 0 part → StandsAt bytes at part
stands_through bytes at piece part outer inner =
    stands_front bytes at part (drop (length part) piece)
    (subst (λ (l : List ℕ). StandsAt bytes at l) (sym (take-append-drop (length part) piece) ∙ ap (λ (l : List ℕ). l ++ drop (length part) piece) inner) outer)

-- the rest of a piece
pub rest_stands : (bytes : List ℕ) (from at : ℕ) (piece rest : List ℕ) → at ≤ length piece → rest ≡ drop at piece → StandsAt bytes from piece → StandsAt bytes (from + at) rest
rest_stands bytes from at piece rest within is outer =
    subst (λ n. StandsAt bytes (from + n) rest) (length-take-le at piece within)
    (stands_back bytes from (take at piece) rest (subst (λ (l : List ℕ). StandsAt bytes from l) (sym (take-append-drop at piece) ∙ ap (λ (l : List ℕ). take at piece ++ l) (sym is)) outer))

-- a read gives what stands there, and all of it where it doesn't fill the buffer
module _ (bytes : List ℕ) (at : ℕ) (before after : List ℕ) (n : ℕ) (gives : GivesBytes bytes at before after n) where
  read_long : length (take n (drop at bytes)) ≡ n
  read_long = omega (arith, length-take n (drop at bytes), length-drop at bytes, gives.most)

  pub read_is : take n after ≡ take n (drop at bytes)
  read_is = ap (λ (l : List ℕ). take n l) gives.buffer ∙ take_at (take n (drop at bytes)) (drop n before) n read_long

  pub read_size : length (take n after) ≡ n
  read_size = ap length read_is ∙ read_long

  pub read_stands : StandsAt bytes at (take n after)
  read_stands = ap (λ k. take k (drop at bytes)) read_size ∙ sym read_is

  pub read_all : n < length before → at ≤ length bytes → length bytes ≡ at + n
  read_all short within = omega (arith, gives.most, short, within)

-- a read from the start into a buffer of 8 bytes
pub first_read : (bytes before after : List ℕ) (n : ℕ) → GivesBytes bytes 0 before after n → length before ≡ 8 → take n after ≡ take 8 bytes
first_read bytes before after n gives room = read_is bytes 0 before after n gives ∙ by (nat_le 8 (length bytes)) refl
  where
    by : (full : Bool) → nat_le 8 (length bytes) ≡ full → take n bytes ≡ take 8 bytes
    by true e =
        let enough : 8 ≤ length bytes = grind (arith, nat_tests) in
        let full : n ≡ 8 = omega (arith, gives.most, room, enough) in
        ap (λ k. take k bytes) full
    by false e =
        let few : length bytes < 8 = grind (arith, nat_tests) in
        take_all n bytes (omega (arith, gives.most, room, few)) ∙ sym (take_all 8 bytes (omega (arith, few)))

-- the bytes of a number that was read
same_small : (bs : List ℕ) → little_number 4 bs ≡ from_le_bytes w32 bs
same_small bs = omega arith

same_number : (bs : List ℕ) → little_number 8 bs ≡ from_le_bytes w64 bs
same_number bs = omega arith

bytes-drop : (n : ℕ) (bs : List ℕ) → AreBytes bs → AreBytes (drop n bs)
bytes-drop n bs h i = rw (get_or-drop n bs i 0) (h (n + i))

bytes-take : (n : ℕ) (bs : List ℕ) → AreBytes bs → AreBytes (take n bs)
bytes-take zero bs h i = omega arith
bytes-take (suc n) [] h i = omega arith
bytes-take (suc n) (b ∷ bs) h zero = h 0
bytes-take (suc n) (b ∷ bs) h (suc i) = bytes-take n bs (λ k. h (suc k)) i

pub small_stands : (bytes : List ℕ) (at n : ℕ) → AreBytes bytes → at + 4 ≤ length bytes → n ≡ little_number 4 (drop at bytes) → StandsAt bytes at (to_le_bytes w32 n)
small_stands bytes at n known room is =
    let rest : List ℕ = drop at bytes in
    let enough : 4 ≤ length rest = omega (arith, room, length-drop at bytes) in
    sym (le_bytes_4 (take 4 rest) n (length-take-le 4 rest enough) (bytes-take 4 rest (bytes-drop at bytes known)) (is ∙ sym (little_from-take 0 4 4 rest (omega arith)) ∙ same_small (take 4 rest)))

pub number_stands : (bytes : List ℕ) (at n : ℕ) → AreBytes bytes → at + 8 ≤ length bytes → n ≡ little_number 8 (drop at bytes) → StandsAt bytes at (to_le_bytes w64 n)
number_stands bytes at n known room is =
    let rest : List ℕ = drop at bytes in
    let enough : 8 ≤ length rest = omega (arith, room, length-drop at bytes) in
    sym (le_bytes_8 (take 8 rest) n (length-take-le 8 rest enough) (bytes-take 8 rest (bytes-drop at bytes known)) (is ∙ sym (little_from-take 0 8 8 rest (omega arith)) ∙ same_number (take 8 rest)))

-- four numbers, one behind the other
pub four_stand : (bytes : List ℕ) (wal segment start len : ℕ) → StandsAt bytes 1 (to_le_bytes w32 wal) → StandsAt bytes 5 (to_le_bytes w32 segment) → StandsAt bytes 9 (to_le_bytes w64 start) → StandsAt bytes 17 (to_le_bytes w64 len) → StandsAt bytes 1 (to_le_bytes w32 wal ++ (to_le_bytes w32 segment ++ (to_le_bytes w64 start ++ to_le_bytes w64 len)))
four_stand bytes wal segment start len a b c d =
    stands_join bytes 1 (to_le_bytes w32 wal) (to_le_bytes w32 segment ++ (to_le_bytes w64 start ++ to_le_bytes w64 len)) a
    (stands_join bytes 5 (to_le_bytes w32 segment) (to_le_bytes w64 start ++ to_le_bytes w64 len) b
    (stands_join bytes 9 (to_le_bytes w64 start) (to_le_bytes w64 len) c d))
