-- Numbers in decimal that end with zeros.
use Rattle.std.proofs.Common.{◌≡◌, ℕ, zero, suc, ◌+◌, ◌*◌, ◌/◌, ◌%◌, ◌^◌, ◌<◌, [], ◌∷◌, ◌++◌, replicate, decimal, ap, sym, ◌∙◌, append_assoc, arith}
use Rattle.std.proofs.Math.Nat.{le-mul_of_pos_right, mul_assoc, pow-succ'}
use Rattle.std.proofs.lemmas.List.{append-nil}
use Rattle.std.proofs.lemmas.Fmt.{decimal_step_wide}

-- ten times a number has one zero more
pub decimal_tenfold : (m : ℕ) → 0 < m → m * 10 < 10 ^ 64 → decimal (m * 10) ≡ decimal m ++ 48 ∷ []
decimal_tenfold m some small =
    let quotient : m * 10 / 10 ≡ m = omega arith in
    let rest : m * 10 % 10 ≡ 0 = omega arith in
    decimal_step_wide (m * 10) (omega arith) small ∙ ap (λ q. decimal q ++ (48 + m * 10 % 10) ∷ []) quotient ∙ ap (λ r. decimal m ++ (48 + r) ∷ []) rest

power_positive : (k : ℕ) → 0 < 10 ^ k
power_positive zero = omega arith
power_positive (suc k) = rw (pow-succ' 10 k) (omega (arith, power_positive k))

-- behind a number as many zeros as the power of ten has
pub decimal_zeros : (k m : ℕ) → 0 < m → m * 10 ^ k < 10 ^ 64 → decimal (m * 10 ^ k) ≡ decimal m ++ replicate k 48
decimal_zeros zero m some small =
    let one : m * 10 ^ 0 ≡ m = omega arith in
    ap decimal one ∙ sym (append-nil (decimal m))
decimal_zeros (suc k) m some small =
    let more : m * 10 ^ suc k ≡ m * 10 * 10 ^ k = ap (λ p. m * p) (pow-succ' 10 k) ∙ sym (mul_assoc m 10 (10 ^ k)) in
    let less : m * 10 * 10 ^ k < 10 ^ 64 = omega arith in
    let tenfold : m * 10 < 10 ^ 64 = omega (arith, le-mul_of_pos_right (m * 10) (power_positive k), less) in
    ap decimal more ∙ decimal_zeros k (m * 10) (omega arith) less ∙ ap (λ ds. ds ++ replicate k 48) (decimal_tenfold m some tenfold) ∙ append_assoc (decimal m) (48 ∷ []) (replicate k 48)
