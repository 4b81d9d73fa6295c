-- Numbers that follow each other, and those of them that pass a test.
use Rattle.std.proofs.Common.{◌≡◌, ℕ, zero, suc, ◌+◌, ◌<◌, ◌≤◌, Bool, true, false, [], ◌∷◌, ◌++◌, filter, refl, ap, sym, ◌∙◌, arith}
use Rattle.std.specs.List.{range_with_len}
use Rattle.std.proofs.Math.Nat.{zero-add, add-zero}
use Rattle.std.proofs.lemmas.List.{append-nil}
use Rattle.std.proofs.lemmas.List.Elements.{filter-append}

pub range_split : (a m n : ℕ) → range_with_len a (m + n) ≡ range_with_len a m ++ range_with_len (a + m) n
range_split a zero n = ap (λ k. range_with_len a k) (zero-add n) ∙ ap (λ b. range_with_len b n) (sym (add-zero a))
range_split a (suc m) n =
    let count : suc m + n ≡ suc (m + n) = omega arith in
    let start : a + 1 + m ≡ a + suc m = omega arith in
    ap (λ k. range_with_len a k) count ∙ ap (λ xs. a ∷ xs) (range_split (a + 1) m n ∙ ap (λ b. range_with_len (a + 1) m ++ range_with_len b n) start)

-- one number more
pub range_more : (a n : ℕ) → range_with_len a (n + 1) ≡ range_with_len a n ++ (a + n) ∷ []
range_more a n = range_split a n 1

pub filter_none : (p : ℕ → Bool) (a n : ℕ) → ((i : ℕ) → a ≤ i → i < a + n → p i ≡ false) → filter p (range_with_len a n) ≡ []
filter_none p a zero none = refl
filter_none p a (suc n) none = rw (none a (omega arith) (omega arith)) (filter_none p (a + 1) n (λ i low high. none i (omega arith) (omega arith)))

pub filter_all : (p : ℕ → Bool) (a n : ℕ) → ((i : ℕ) → a ≤ i → i < a + n → p i ≡ true) → filter p (range_with_len a n) ≡ range_with_len a n
filter_all p a zero all = refl
filter_all p a (suc n) all = rw (all a (omega arith) (omega arith)) (ap (λ xs. a ∷ xs) (filter_all p (a + 1) n (λ i low high. all i (omega arith) (omega arith))))

-- of the first numbers, where a test passes m of them that follow each other
pub filter_middle : (p : ℕ → Bool) (a m k : ℕ) → ((i : ℕ) → i < a → p i ≡ false) → ((i : ℕ) → a ≤ i → i < a + m → p i ≡ true) → ((i : ℕ) → a + m ≤ i → i < a + m + k → p i ≡ false) → filter p (range_with_len 0 (a + (m + k))) ≡ range_with_len a m
filter_middle p a m k before within behind =
    let parts : range_with_len 0 (a + (m + k)) ≡ range_with_len 0 a ++ (range_with_len a m ++ range_with_len (a + m) k) =
    range_split 0 a (m + k) ∙ ap (λ xs. range_with_len 0 a ++ xs) (ap (λ b. range_with_len b (m + k)) (zero-add a) ∙ range_split a m k) in
    let first : filter p (range_with_len 0 a) ≡ [] = filter_none p 0 a (λ i low high. before i (omega arith)) in
    let second : filter p (range_with_len a m) ≡ range_with_len a m = filter_all p a m within in
    let third : filter p (range_with_len (a + m) k) ≡ [] = filter_none p (a + m) k behind in
    rw (parts, filter-append p (range_with_len 0 a) (range_with_len a m ++ range_with_len (a + m) k), first, filter-append p (range_with_len a m) (range_with_len (a + m) k), second, third) (append-nil (range_with_len a m))
