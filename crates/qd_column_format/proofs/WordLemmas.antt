-- Numbers of 8 bytes, read one after another.
use Rattle.std.proofs.Common.{◌≡◌, ℕ, zero, suc, ◌+◌, ◌*◌, ◌^◌, ◌<◌, ◌≤◌, ℤ, List, [], ◌∷◌, ◌++◌, length, take, drop, get_or, refl, sym, ap, ◌∙◌, arith, length-drop, All, subst, Bool, true, false, ltb, pos, negsuc, ◌-◌, FitsSigned}
use Rattle.std.specs.List.{flat_map}
use Rattle.std.specs.Int.{w64, cast_signed, cast_unsigned, from_le_bytes}
use Rattle.std.proofs.lemmas.Int.{of_z-to_z}
use Rattle.std.proofs.lemmas.List.{length-take-le, get_or-drop, take-append-drop, drop-drop, nil_from_length, get_or_default, take_at, append_assoc}
use Rattle.std.proofs.lemmas.Nat.{le_bytes_8}
use Rattle.std.proofs.lemmas.Bool.{ltb-true, ltb-false}
use mir.Val.{sel}
use Rattle.byteorder.specs.Endian.{little_bytes, little_number, IsRead, IsReadBy}
use Rattle.byteorder.specs.Numbers.{little_from-take, little_from-lt}

-- bytes, each below 256
abbrev pub AreBytes : List ℕ → Type 0
AreBytes bs = (i : ℕ) → get_or bs i 0 < 256

pub bytes-drop : (n : ℕ) (bs : List ℕ) → AreBytes bs → AreBytes (drop n bs)
bytes-drop n bs h i = rw (get_or-drop n bs i 0) (h (n + i))

-- the number in 8 bytes is the same by both definitions
same_number : (bs : List ℕ) → little_number 8 bs ≡ from_le_bytes w64 bs
same_number bs = omega arith

pub bytes-take : (n : ℕ) (bs : List ℕ) → AreBytes bs → AreBytes (take n bs)
bytes-take zero bs h i = omega arith
bytes-take (suc n) [] h i = omega arith
bytes-take (suc n) (b ∷ bs) h zero = h 0
bytes-take (suc n) (b ∷ bs) h (suc i) = bytes-take n bs (λ k. h (suc k)) i

-- the bytes of the number in 8 bytes are these
pub word_again : (bs : List ℕ) → 8 ≤ length bs → AreBytes bs → little_bytes 8 (little_number 8 bs) ≡ take 8 bs
word_again bs size h = le_bytes_8 (take 8 bs) (little_number 8 bs) (length-take-le 8 bs size) (bytes-take 8 bs h) (sym (little_from-take 0 8 8 bs (omega arith)) ∙ same_number (take 8 bs))

pub long_again : (bs : List ℕ) → 8 ≤ length bs → AreBytes bs → little_bytes 8 (cast_unsigned w64 (cast_signed w64 (little_number 8 bs))) ≡ take 8 bs
long_again bs size h = let small = little_from-lt 0 8 bs h in ap (little_bytes 8) (of_z-to_z w64 (little_number 8 bs) (omega arith)) ∙ word_again bs size h

-- what is read of bytes, one number after another, spelled again
pub read_again : {X : Type 0} (value : List ℕ → X) (spell : X → List ℕ) → ((bs : List ℕ) → 8 ≤ length bs → AreBytes bs → spell (value bs) ≡ take 8 bs) → (src : List ℕ) (dst : List X) → AreBytes src → length src ≡ 8 * length dst → IsReadBy value 8 src dst → flat_map spell dst ≡ src
read_again value spell again src [] bytes size read = sym (nil_from_length src (omega arith))
read_again value spell again src (x ∷ xs) bytes size read =
    let head : spell x ≡ take 8 src = ap spell (read x 0 (omega arith)) ∙ again src (omega arith) bytes in
    let rest : flat_map spell xs ≡ drop 8 src = read_again value spell again (drop 8 src) xs (bytes-drop 8 src bytes) (omega (arith, length-drop 8 src)) (λ d k lt. let place : 8 + 8 * k ≡ 8 * suc k = omega arith in read d (suc k) (omega arith) ∙ ap (λ n. value (drop n src)) (sym place) ∙ ap value (sym (drop-drop (8 * k) 8 src))) in
    ap (λ l. l ++ flat_map spell xs) head ∙ ap (λ l. take 8 src ++ l) rest ∙ take-append-drop 8 src

pub read_by : (src dst : List ℕ) → IsRead little_number 8 src dst → IsReadBy (little_number 8) 8 src dst
read_by src dst read d k lt = get_or_default dst k d 0 lt ∙ read k lt

-- numbers read into a vector's place
pub words_read : {X : Type 0} (value : List ℕ → X) (spell : X → List ℕ) → ((bs : List ℕ) → 8 ≤ length bs → AreBytes bs → spell (value bs) ≡ take 8 bs) → (bytes : List ℕ) (dst items : List X) (count len : ℕ) → AreBytes bytes → 8 * count ≤ length bytes → length dst ≡ count → len ≡ count → IsReadBy value 8 (take (8 * count) bytes) dst → bytes ≡ flat_map spell (take len (dst ++ items)) ++ drop (8 * count) bytes
words_read value spell again bytes dst items count len known there size same read =
    let src = take (8 * count) bytes in
    let whole : take len (dst ++ items) ≡ dst = take_at dst items len (size ∙ sym same) in
    let small : AreBytes src = λ i. bytes-take (8 * count) bytes known i in
    let spelled : flat_map spell dst ≡ src = read_again value spell again src dst small (length-take-le (8 * count) bytes there ∙ ap (λ n. 8 * n) (sym size)) read in
    sym (ap (λ l. l ++ drop (8 * count) bytes) (ap (flat_map spell) whole ∙ spelled) ∙ take-append-drop (8 * count) bytes)

-- the numbers that are read fit
pub words_fit : (src dst : List ℕ) → AreBytes src → IsRead little_number 8 src dst → All (λ n. n < 2 ^ 64) dst
words_fit src dst bytes read k d lt =
    let small = little_from-lt 0 8 (drop (8 * k) src) (bytes-drop (8 * k) src bytes) in
    let is : get_or dst k d ≡ little_number 8 (drop (8 * k) src) = get_or_default dst k d 0 lt ∙ read k lt in
    omega arith

signed_fits : (n : ℕ) → n < 2 ^ 64 → FitsSigned w64 (cast_signed w64 n)
signed_fits n h = go (ltb n (2 ^ 63)) refl
  where
    go : (b : Bool) → ltb n (2 ^ 63) ≡ b → FitsSigned w64 (sel b (pos n) (negsuc (2 ^ 64 - suc n)))
    go true e = let low = ltb-true n (2 ^ 63) e in record { sfits = omega arith }
    go false e = let high = ltb-false n (2 ^ 63) e in record { sfits = omega arith }

pub longs_fit : (src : List ℕ) (dst : List ℤ) → AreBytes src → IsReadBy (λ ys. cast_signed w64 (little_number 8 ys)) 8 src dst → All (FitsSigned w64) dst
longs_fit src dst bytes read k d lt =
    let small = little_from-lt 0 8 (drop (8 * k) src) (bytes-drop (8 * k) src bytes) in
    subst (FitsSigned w64) (sym (read d k lt)) (signed_fits (little_number 8 (drop (8 * k) src)) (omega arith))

-- whole numbers that bytes hold
abbrev pub words_of : ℕ → List ℕ → List ℕ
words_of zero bytes = []
words_of (suc n) bytes = little_number 8 bytes ∷ words_of n (drop 8 bytes)

pub words_held : (n : ℕ) (bytes : List ℕ) → AreBytes bytes → 8 * n ≤ length bytes → (length (words_of n bytes) ≡ n) × All (λ m. m < 2 ^ 64) (words_of n bytes) × (bytes ≡ flat_map (little_bytes 8) (words_of n bytes) ++ drop (8 * n) bytes)
words_held zero bytes known room = (refl, λ k d lt. absurd (omega arith), refl)
words_held (suc n) bytes known room =
    let rest = words_held n (drop 8 bytes) (bytes-drop 8 bytes known) (omega (arith, length-drop 8 bytes)) in
    let place : 8 + 8 * n ≡ 8 * suc n = omega arith in
    let behind : drop (8 * n) (drop 8 bytes) ≡ drop (8 * suc n) bytes = drop-drop (8 * n) 8 bytes ∙ ap (λ m. drop m bytes) place in
    let small = little_from-lt 0 8 bytes known in
    let front : little_bytes 8 (little_number 8 bytes) ≡ take 8 bytes = word_again bytes (omega arith) known in (
      ap suc rest.0,
      fit n bytes (omega arith) rest.1,
      sym (ap (λ l. (l ++ flat_map (little_bytes 8) (words_of n (drop 8 bytes))) ++ drop (8 * suc n) bytes) front ∙ append_assoc (take 8 bytes) (flat_map (little_bytes 8) (words_of n (drop 8 bytes))) (drop (8 * suc n) bytes) ∙ ap (λ l. take 8 bytes ++ (flat_map (little_bytes 8) (words_of n (drop 8 bytes)) ++ l)) (sym behind) ∙ ap (λ l. take 8 bytes ++ l) (sym rest.2) ∙ take-append-drop 8 bytes),
    )
  where
    fit : (n : ℕ) (bytes : List ℕ) → little_number 8 bytes < 2 ^ 64 → All (λ m. m < 2 ^ 64) (words_of n (drop 8 bytes)) → All (λ m. m < 2 ^ 64) (words_of (suc n) bytes)
    fit n bytes one more zero d lt = one
    fit n bytes one more (suc k) d lt = more k d (omega arith)
