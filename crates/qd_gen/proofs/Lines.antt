-- One line, and the text of lines.
use Rattle.std.proofs.Common.{◌≡◌, ◌⊎◌, inl, inr, Bool, zero, suc, ap₂, ℕ, ◌+◌, ◌-◌, ◌*◌, ◌/◌, ◌%◌, ◌^◌, ◌<◌, ◌≤◌, true, false, cond, List, [], ◌∷◌, ◌++◌, length, replicate, codes, decimal, filter, flat_map, refl, ap, sym, ◌∙◌, append_assoc, arith}
use Rattle.std.specs.List.{range_with_len}
use Rattle.std.proofs.lemmas.List.{append-nil, length-append}
use Rattle.std.proofs.lemmas.List.Elements.{filter-append}
use Rattle.std.proofs.lemmas.Grind.{flat_map-append}
use Rattle.std.proofs.lemmas.Fmt.{decimal_digit, length-decimal-le}
use Rattle.qd_gen.specs.declared.stretch.Share.{Share}
use Rattle.qd_gen.specs.Generated.{line}
use Rattle.qd_gen.specs.Stretches.{taken, taken_text, takes}
use Rattle.qd_gen.proofs.Ranges.{range_more}
use Rattle.qd_gen.proofs.Decimals.{decimal_zeros}

-- a line's time is a number of tens of seconds and ten zeros
pub decimal_time : (i : ℕ) → i < 2 ^ 32 → decimal (1704067200000000000 + 30000000000 * (i / 3)) ≡ decimal (170406720 + 3 * (i / 3)) ++ replicate 10 48
decimal_time i small =
    let tens : 1704067200000000000 + 30000000000 * (i / 3) ≡ (170406720 + 3 * (i / 3)) * 10 ^ 10 = omega arith in
    ap decimal tens ∙ decimal_zeros 10 (170406720 + 3 * (i / 3)) (omega arith) (omega arith)

-- parts that are appended one by one, the time in two of them
pub line_parts : (out a sensor b value c tens zeros end time : List ℕ) → time ≡ tens ++ zeros → ((((((out ++ a) ++ sensor) ++ b) ++ value) ++ c) ++ tens) ++ (zeros ++ end) ≡ out ++ ((((((a ++ sensor) ++ b) ++ value) ++ c) ++ time) ++ end)
line_parts out a sensor b value c tens zeros end time e = rw e (simp append_assoc)

-- how long a line is
pub length-line : (number i : ℕ) → i < 2 ^ 32 → length (line number i) ≡ 18 + length (decimal ((number + 7 * i) % 1000)) + length (decimal (170406720 + 3 * (i / 3))) + 11
length-line number i small =
    let time = ap length (decimal_time i small) ∙ length-append (decimal (170406720 + 3 * (i / 3))) (replicate 10 48) in
    let sensor = ap length (decimal_digit (i % 3) (omega arith)) in
    simp length-append (omega (arith, time, sensor))

pub line_short : (number i : ℕ) → i < 2 ^ 32 → length (line number i) ≤ 42
line_short number i small =
    let value = length-decimal-le 3 ((number + 7 * i) % 1000) (omega arith) (omega arith) (omega arith) in
    let tens = length-decimal-le 10 (170406720 + 3 * (i / 3)) (omega arith) (omega arith) (omega arith) in
    omega (arith, length-line number i small, value, tens)

-- a line, appended part by part
pub line_written : (o o₁ o₂ o₃ o₄ o₅ o₆ o₇ : List ℕ) (number i sensor value tens : ℕ) → i < 2 ^ 32 → sensor ≡ i % 3 → value ≡ (number + 7 * i) % 1000 → tens ≡ 170406720 + 3 * (i / 3) → o₁ ≡ o ++ codes "gen,sensor=s" → o₂ ≡ o₁ ++ decimal sensor → o₃ ≡ o₂ ++ codes " v=" → o₄ ≡ o₃ ++ decimal value → o₅ ≡ o₄ ++ codes "i " → o₆ ≡ o₅ ++ decimal tens → o₇ ≡ o₆ ++ codes "0000000000\n" → o₇ ≡ o ++ line number i
line_written o o₁ o₂ o₃ o₄ o₅ o₆ o₇ number i sensor value tens small s v t e₁ e₂ e₃ e₄ e₅ e₆ e₇ =
    rw (e₇, e₆, e₅, e₄, e₃, e₂, e₁, s, v, t) (line_parts o (codes "gen,sensor=s") (decimal (i % 3)) (codes " v=") (decimal ((number + 7 * i) % 1000)) (codes "i ") (decimal (170406720 + 3 * (i / 3))) (replicate 10 48) (10 ∷ []) (decimal (1704067200000000000 + 30000000000 * (i / 3))) (decimal_time i small))

-- a line more, where it is taken and where it isn't
pub text_more : (s : Share) (number first n m i : ℕ) → m ≡ n + 1 → first + n ≡ i → takes s i ≡ true → taken_text s number first m ≡ taken_text s number first n ++ line number i
text_more s number first n m i more at is =
    let cut : taken s first m ≡ taken s first n ++ i ∷ [] =
    ap (λ k. filter (takes s) (range_with_len first k)) more ∙ ap (filter (takes s)) (range_more first n ∙ ap (λ j. range_with_len first n ++ j ∷ []) at)
    ∙ filter-append (takes s) (range_with_len first n) (i ∷ []) ∙ ap (λ b. taken s first n ++ cond b (i ∷ []) []) is in
    ap (flat_map (line number)) cut ∙ flat_map-append (line number) (taken s first n) (i ∷ []) ∙ ap (λ xs. taken_text s number first n ++ xs) (append-nil (line number i))

pub text_same : (s : Share) (number first n m i : ℕ) → m ≡ n + 1 → first + n ≡ i → takes s i ≡ false → taken_text s number first m ≡ taken_text s number first n
text_same s number first n m i more at is =
    let cut : taken s first m ≡ taken s first n ++ [] =
    ap (λ k. filter (takes s) (range_with_len first k)) more ∙ ap (filter (takes s)) (range_more first n ∙ ap (λ j. range_with_len first n ++ j ∷ []) at)
    ∙ filter-append (takes s) (range_with_len first n) (i ∷ []) ∙ ap (λ b. taken s first n ++ cond b (i ∷ []) []) is in
    ap (flat_map (line number)) (cut ∙ append-nil (taken s first n))

pub len_more : (s : Share) (number first i len more total : ℕ) → first ≤ i → takes s i ≡ true → len ≡ length (taken_text s number first (i - first)) → more ≡ length (line number i) → total ≡ len + more → total ≡ length (taken_text s number first (i + 1 - first))
len_more s number first i len more total low is counted line_len sum =
    sum ∙ ap₂ (λ a b. a + b) counted line_len ∙ sym (length-append (taken_text s number first (i - first)) (line number i))
    ∙ sym (ap length (text_more s number first (i - first) (i + 1 - first) i (omega arith) (omega arith) is))

pub len_same : (s : Share) (number first i len : ℕ) → first ≤ i → takes s i ≡ false → len ≡ length (taken_text s number first (i - first)) → len ≡ length (taken_text s number first (i + 1 - first))
len_same s number first i len low is counted =
    counted ∙ sym (ap length (text_same s number first (i - first) (i + 1 - first) i (omega arith) (omega arith) is))

pub out_more : (s : Share) (number first i : ℕ) (o before after : List ℕ) → first ≤ i → takes s i ≡ true → before ≡ o ++ taken_text s number first (i - first) → after ≡ before ++ line number i → after ≡ o ++ taken_text s number first (i + 1 - first)
out_more s number first i o before after low is written pushed =
    pushed ∙ ap (λ xs. xs ++ line number i) written ∙ append_assoc o (taken_text s number first (i - first)) (line number i)
    ∙ ap (λ xs. o ++ xs) (sym (text_more s number first (i - first) (i + 1 - first) i (omega arith) (omega arith) is))

pub out_same : (s : Share) (number first i : ℕ) (o before : List ℕ) → first ≤ i → takes s i ≡ false → before ≡ o ++ taken_text s number first (i - first) → before ≡ o ++ taken_text s number first (i + 1 - first)
out_same s number first i o before low is written =
    written ∙ ap (λ xs. o ++ xs) (sym (text_same s number first (i - first) (i + 1 - first) i (omega arith) (omega arith) is))

either : (b : Bool) → (b ≡ true) ⊎ (b ≡ false)
either true = inl refl
either false = inr refl

-- lines that are taken have at most 42 bytes each
pub taken_short : (s : Share) (number first n : ℕ) → first + n ≤ 2 ^ 32 → length (taken_text s number first n) ≤ 42 * n
taken_short s number first zero small = omega arith
taken_short s number first (suc n) small =
    let before : length (taken_text s number first n) ≤ 42 * n = taken_short s number first n (omega arith) in
    let one : length (line number (first + n)) ≤ 42 = line_short number (first + n) (omega arith) in
    elim (either (takes s (first + n))) [
      | inl is ↦
          let more : length (taken_text s number first (suc n)) ≡ length (taken_text s number first n) + length (line number (first + n)) =
          ap length (text_more s number first n (suc n) (first + n) (omega arith) refl is) ∙ length-append (taken_text s number first n) (line number (first + n)) in
          omega (arith, before, one, more)
      | inr is ↦
          let same : length (taken_text s number first (suc n)) ≡ length (taken_text s number first n) =
          ap length (text_same s number first n (suc n) (first + n) (omega arith) refl is) in
          omega (arith, before, same)
    ]
