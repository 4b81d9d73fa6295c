-- A number is read byte by byte: what the bytes so far say of it.
use Rattle.std.proofs.Common.{◌≡◌, ℕ, ◌+◌, ◌*◌, ◌^◌, ◌<◌, ◌≤◌, List, [], ◌∷◌, ◌++◌, length, take, drop, get_or, refl, sym, ap, ◌∙◌, subst, arith, append_assoc}
use Rattle.std.specs.Fmt.{decimal}
use Rattle.std.proofs.lemmas.Fmt.{decimal_digit, decimal_nonempty, decimal_injective}
use Rattle.std.proofs.lemmas.List.{append-nil, drop_more, take_more, take-append-drop, length-take-le, take_all}
use Rattle.qd_frames.proofs.DecimalLemmas.{IsDigit, Digits, Digits-decimal, Digits-at, digits_within, prefix_spells, decimal_push, no_leading_zero}
use Rattle.qd_frames.specs.declared.head.Number.TheVariants as number
use Rattle.qd_frames.specs.Heads.{ReadsNumber}

-- these digits spell the number; no digits stand for 0
pub record Spelled (ds : List ℕ) (value : ℕ) : Type 0 where
  pub none : length ds ≡ 0 → value ≡ 0
  pub some : 0 < length ds → ds ≡ decimal value

pub Digits-spelled : (ds : List ℕ) (value : ℕ) → value < 2 ^ 64 → Spelled ds value → Digits ds
Digits-spelled [] value small s = tt
Digits-spelled (d ∷ ds) value small s = subst Digits (sym (s.some (omega arith))) (Digits-decimal value small)

-- a byte that is no digit stands where the number is whole, and is its LF
pub no_digit : (ds rest tail : List ℕ) (b n : ℕ) → n < 2 ^ 64 → Digits ds → (IsDigit b → ⊥) → ds ++ b ∷ rest ≡ decimal n ++ 10 ∷ tail → (b ≡ 10) × (decimal n ≡ ds)
no_digit ds rest tail b n small all other e =
    let h = digits_within ds (decimal n) (b ∷ rest) tail all e in
    no_digit_at h.0 h.1 h.2
  where
    no_digit_at : (more : List ℕ) → decimal n ≡ ds ++ more → b ∷ rest ≡ more ++ 10 ∷ tail → (b ≡ 10) × (decimal n ≡ ds)
    no_digit_at [] here there = (cc, here ∙ append-nil ds)
    no_digit_at (m ∷ more) here there =
        let digit = Digits-at ds m more (subst Digits here (Digits-decimal n small)) in
        let same : m ≡ b = cc in
        absurd (other (subst IsDigit same digit))

-- no digit follows the number 0
pub after_zero : (ds rest tail : List ℕ) (b n : ℕ) → n < 2 ^ 64 → IsDigit b → ds ≡ decimal 0 → ds ++ b ∷ rest ≡ decimal n ++ 10 ∷ tail → ⊥
after_zero ds rest tail b n small digit zero e =
    let one : ds ≡ 48 ∷ [] = zero ∙ decimal_digit 0 (omega arith) in
    let e' : 48 ∷ b ∷ rest ≡ decimal n ++ 10 ∷ tail = subst (λ xs. xs ++ b ∷ rest ≡ decimal n ++ 10 ∷ tail) one e in
    let h = digits_within (48 ∷ b ∷ []) (decimal n) rest tail ((omega arith, omega arith), (digit, tt)) e' in
    no_leading_zero n b h.0 small h.1

-- one digit more
pub Spelled-push : (ds : List ℕ) (value d : ℕ) → value < 2 ^ 32 → d < 10 → (0 < length ds → 0 < value) → Spelled ds value → Spelled (ds ++ (48 + d) ∷ []) (10 * value + d)
Spelled-push [] value d small low some s =
    let z : value ≡ 0 = s.none refl in
    record { none = λ e. absurd (omega arith); some = λ _. sym (decimal_digit d low) ∙ ap decimal (let e : d ≡ 10 * value + d = omega arith in e) }
Spelled-push (x ∷ xs) value d small low some s =
    record { none = λ e. absurd (omega arith); some = λ _. ap (λ ys. ys ++ (48 + d) ∷ []) (s.some (omega arith)) ∙ sym (decimal_push value d (some (omega arith)) low (omega arith)) }

-- a number that begins with these digits is no less than what they spell
pub no_less : (ds rest tail : List ℕ) (value n : ℕ) → n < 2 ^ 64 → value < 2 ^ 64 → 0 < length ds → Spelled ds value → ds ++ rest ≡ decimal n ++ 10 ∷ tail → value ≤ n
no_less ds rest tail value n small small' some s e =
    let h = digits_within ds (decimal n) rest tail (Digits-spelled ds value small' s) e in
    let k = prefix_spells n small ds h.0 h.1 some in
    let same : k.0 ≡ value = decimal_injective k.0 value (omega arith) small' (sym k.2 ∙ s.some some) in
    omega arith

-- the bytes, cut before the i-th
split_at : (bytes : List ℕ) (i : ℕ) → i < length bytes → take i bytes ++ get_or bytes i 0 ∷ drop (i + 1) bytes ≡ bytes
split_at bytes i within = ap (λ xs. take i bytes ++ xs) (sym (drop_more bytes i 0 within)) ∙ take-append-drop i bytes

-- with more behind them
split_before : (bytes more : List ℕ) (i : ℕ) → i < length bytes → take i bytes ++ get_or bytes i 0 ∷ (drop (i + 1) bytes ++ more) ≡ bytes ++ more
split_before bytes more i within =
    sym (append_assoc (take i bytes) (get_or bytes i 0 ∷ drop (i + 1) bytes) more) ∙ ap (λ xs. xs ++ more) (split_at bytes i within)

-- LF behind digits: the number is whole
pub whole_at : (most : ℕ) (bytes : List ℕ) (i value : ℕ) → i < length bytes → 0 < i → value ≤ most → Spelled (take i bytes) value → get_or bytes i 0 ≡ 10 → ReadsNumber most bytes (number.Whole value (i + 1))
whole_at most bytes i value within some small s lf =
    let len : length (take i bytes) ≡ i = length-take-le i bytes (omega arith) in
    let digits : take i bytes ≡ decimal value = s.some (omega arith) in
    (drop (i + 1) bytes, small, sym (split_at bytes i within) ∙ (ap (λ x. take i bytes ++ x ∷ drop (i + 1) bytes) lf ∙ ap (λ xs. xs ++ 10 ∷ drop (i + 1) bytes) digits), ap (λ x. x + 1) (sym len ∙ ap length digits))

-- a byte that is no digit, and no LF behind digits
pub wrong_byte_at : (most : ℕ) (bytes : List ℕ) (i value : ℕ) → most < 2 ^ 32 → i < length bytes → value ≤ most → Spelled (take i bytes) value → (IsDigit (get_or bytes i 0) → ⊥) → (get_or bytes i 0 ≡ 10 → 0 < i → ⊥) → ReadsNumber most bytes number.Wrong
wrong_byte_at most bytes i value low within small s other no_end n more tail fits e =
    let h = no_digit (take i bytes) (drop (i + 1) bytes ++ more) tail (get_or bytes i 0) n (omega arith) (Digits-spelled (take i bytes) value (omega arith) s) other (split_before bytes more i within ∙ e) in
    let some = decimal_nonempty n (omega arith) in
    let len : length (take i bytes) ≡ i = length-take-le i bytes (omega arith) in
    let same : length (decimal n) ≡ length (take i bytes) = ap length h.1 in
    no_end h.0 (omega arith)

-- a digit behind the number 0
pub wrong_zero_at : (most : ℕ) (bytes : List ℕ) (i value : ℕ) → most < 2 ^ 32 → i < length bytes → 0 < i → value ≡ 0 → Spelled (take i bytes) value → IsDigit (get_or bytes i 0) → ReadsNumber most bytes number.Wrong
wrong_zero_at most bytes i value low within some zero s digit n more tail fits e =
    let len : length (take i bytes) ≡ i = length-take-le i bytes (omega arith) in
    after_zero (take i bytes) (drop (i + 1) bytes ++ more) tail (get_or bytes i 0) n (omega arith) digit (s.some (omega arith) ∙ ap decimal zero) (split_before bytes more i within ∙ e)

-- what the bytes spell with one digit more
pub Spelled-at : (bytes : List ℕ) (i value d : ℕ) → i < length bytes → value < 2 ^ 32 → d < 10 → get_or bytes i 0 ≡ 48 + d → (0 < i → 0 < value) → Spelled (take i bytes) value → Spelled (take (i + 1) bytes) (10 * value + d)
Spelled-at bytes i value d within small low digit some s =
    let len : length (take i bytes) ≡ i = length-take-le i bytes (omega arith) in
    let next : take (i + 1) bytes ≡ take i bytes ++ (48 + d) ∷ [] = take_more bytes i 0 within ∙ ap (λ x. take i bytes ++ x ∷ []) digit in
    subst (λ xs. Spelled xs (10 * value + d)) (sym next) (Spelled-push (take i bytes) value d small low (λ h. some (omega arith)) s)

-- the digits so far spell too great a number
pub too_great_at : (most : ℕ) (bytes : List ℕ) (j value : ℕ) → most < 2 ^ 32 → j ≤ length bytes → 0 < j → value < 2 ^ 64 → most < value → Spelled (take j bytes) value → ReadsNumber most bytes number.Wrong
too_great_at most bytes j value low within some small great s n more tail fits e =
    let len : length (take j bytes) ≡ j = length-take-le j bytes within in
    let cut : take j bytes ++ (drop j bytes ++ more) ≡ bytes ++ more = sym (append_assoc (take j bytes) (drop j bytes) more) ∙ ap (λ xs. xs ++ more) (take-append-drop j bytes) in
    let least : value ≤ n = no_less (take j bytes) (drop j bytes ++ more) tail value n (omega arith) small (omega arith) s (cut ∙ e) in
    omega arith

-- the bytes end inside a number
pub short_at : (most : ℕ) (bytes : List ℕ) (i value : ℕ) → length bytes ≤ i → value ≤ most → Spelled (take i bytes) value → ReadsNumber most bytes number.Short
short_at most [] i value all small s = (0, decimal 0, omega arith, refl)
short_at most (b ∷ bs) i value all small s =
    let whole : take i (b ∷ bs) ≡ b ∷ bs = take_all i (b ∷ bs) all in
    let s' : Spelled (b ∷ bs) value = subst (λ xs. Spelled xs value) whole s in
    (value, [], small, sym (s'.some (omega arith)) ∙ sym (append-nil (b ∷ bs)))
