-- The lengths of printed numbers, texts and lines.
use Rattle.std.proofs.Common.{◌≡◌, ℕ, ◌+◌, ◌*◌, ◌/◌, ◌^◌, ◌<◌, ◌≤◌, min, take, List, [], ◌∷◌, ◌++◌, length, map, flat_map, max, sum_by, count_by, decimal, if◌then◌else◌, ◌==◌, Bool, true, false, cond, refl, ap, ◌∙◌, arith, zero, suc}
use Rattle.std.specs.List.{join_with_byte}
use Rattle.std.proofs.lemmas.List.{length-append, take_all}
use Rattle.std.proofs.lemmas.List.Sums.{sum_by-cons}
use Rattle.std.proofs.lemmas.Fmt.{decimal_digit, decimal_step}
use Rattle.std.proofs.lemmas.List.Folds.{fold-map}
use Rattle.std.proofs.lemmas.List.Concat.{length-flat_map}
use Rattle.qd_print.specs.Printed.{quoted}
use Rattle.std.proofs.Math.Nat.{pow-succ'}

power_positive : (k : ℕ) → 1 ≤ 10 ^ k
power_positive zero = omega arith
power_positive (suc k) = rw (pow-succ' 10 k) (omega (arith, power_positive k))

-- a number from a power of ten to the next has one digit more than the power
pub length-decimal : (k n : ℕ) → 10 ^ k ≤ n → n < 10 * 10 ^ k → n < 2 ^ 64 → length (decimal n) ≡ k + 1
length-decimal zero n low high small = ap length (decimal_digit n (omega arith))
length-decimal (suc k) n low high small =
    let low' : 10 * 10 ^ k ≤ n = rw (pow-succ' 10 k) at low in
    let high' : n < 10 * (10 * 10 ^ k) = rw (pow-succ' 10 k) at high in
    let digit : 10 ≤ n = omega (arith, power_positive k) in
    let more : length (decimal n) ≡ length (decimal (n / 10)) + 1 = ap length (decimal_step n digit small) ∙ length-append _ _ in
    let rest : length (decimal (n / 10)) ≡ k + 1 = length-decimal k (n / 10) (omega arith) (omega arith) (omega arith) in
    omega arith

-- one byte more for each quote that is doubled
double_length : (b : ℕ) → length (if b == 34 then 34 ∷ 34 ∷ [] else b ∷ []) ≡ 1 + cond (b == 34) 1 0
double_length b = elim (b == 34) as (λ (v : Bool). length (if v then 34 ∷ 34 ∷ [] else b ∷ []) ≡ 1 + cond v 1 0) [ true ↦ refl | false ↦ refl ]

pub length-doubled : (text : List ℕ) → length (flat_map (λ b. if b == 34 then 34 ∷ 34 ∷ [] else b ∷ []) text) ≡ length text + count_by (λ b. b == 34) text
length-doubled [] = refl
length-doubled (b ∷ text) =
    let double : List ℕ = if b == 34 then 34 ∷ 34 ∷ [] else b ∷ [] in
    let counted = sum_by-cons (λ c. cond (c == 34) 1 0) b text in
    let parts = length-append double (flat_map (λ c. if c == 34 then 34 ∷ 34 ∷ [] else c ∷ []) text) in
    omega (arith, counted, parts, double_length b, length-doubled text)

-- a byte behind each field, and LF where there is none
pub length-csv_line : (fields : List (List ℕ)) → length (join_with_byte 44 fields ++ 10 ∷ []) ≡ max 1 (sum_by (λ f. length f + 1) fields)
length-csv_line [] = refl
length-csv_line (f ∷ []) = omega (arith, length-append f (10 ∷ []))
length-csv_line (f ∷ g ∷ rest) =
    let tail = join_with_byte 44 (g ∷ rest) in
    let parts = length-append (f ++ (44 ∷ tail)) (10 ∷ []) in
    let joined = length-append f (44 ∷ tail) in
    let behind = length-append tail (10 ∷ []) in
    let total = sum_by-cons (λ (t : List ℕ). length t + 1) f (g ∷ rest) in
    let later = sum_by-cons (λ (t : List ℕ). length t + 1) g rest in
    omega (arith, parts, joined, behind, total, later, length-csv_line (g ∷ rest))

-- the line of what f prints of each item
pub length-csv_line-map : {X : Type 0} (f : X → List ℕ) (xs : List X) → length (join_with_byte 44 (map f xs) ++ 10 ∷ []) ≡ max 1 (sum_by (λ x. length (f x) + 1) xs)
length-csv_line-map f xs = length-csv_line (map f xs) ∙ ap (max 1) (fold-map (λ n (t : List ℕ). n + (length t + 1)) f 0 xs)

-- the line of xs, where the fields of its first i items are all of them
pub line_total : {X : Type 0} (f : X → List ℕ) (xs : List X) (i counted total : ℕ) → length xs ≤ i → counted ≡ min (sum_by (λ x. length (f x) + 1) (take i xs)) 18446744073709551615 → total ≡ max counted 1 → total ≡ min (length (join_with_byte 44 (map f xs) ++ 10 ∷ [])) 18446744073709551615
line_total f xs i counted total whole count at_least =
    let all = ap (λ ys. sum_by (λ x. length (f x) + 1) ys) (take_all i xs whole) in
    omega (arith, all, length-csv_line-map f xs)

-- a header and the lines of all rows
pub csv_total : {X : Type 0} (header : List ℕ) (f : X → List ℕ) (rows : List X) (i total : ℕ) → length rows ≤ i → total ≡ min (length header + sum_by (λ row. length (f row)) (take i rows)) 18446744073709551615 → total ≡ min (length (header ++ flat_map f rows)) 18446744073709551615
csv_total header f rows i total whole count =
    let all = ap (λ ys. sum_by (λ row. length (f row)) ys) (take_all i rows whole) in
    omega (arith, all, length-append header (flat_map f rows), length-flat_map f rows)

-- a text in quotes
pub length-quoted : (text : List ℕ) → length (quoted text) ≡ length text + count_by (λ b. b == 34) text + 2
length-quoted text =
    let doubled = flat_map (λ b. if b == 34 then 34 ∷ 34 ∷ [] else b ∷ []) text in
    omega (arith, length-doubled text, length-append doubled (34 ∷ []))
