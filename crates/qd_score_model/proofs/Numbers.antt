-- Rising lists of numbers, and numbers that never fall.
use Rattle.std.proofs.Common.{◌≡◌, ◌≢◌, ◌⊎◌, ℕ, zero, suc, ◌+◌, ◌<◌, ◌≤◌, Bool, true, false, cond, List, [], ◌∷◌, ◌++◌, length, refl, sym, ap, ap₂, subst, ⊎_elim, arith, zero-le, eqb, leb}
use Rattle.std.specs.Prelude.{◌==◌, nat_le, if◌then◌else◌, slice_index_or}
use Rattle.std.proofs.lemmas.Bool.Decides.{eqb_tells, leb_tells}
use Rattle.std.proofs.lemmas.List.Sums.{sum_by-cons, sum_by-append}
use Rattle.qd_score_model.specs.declared.view.Record.{Record}
use Rattle.qd_score_model.specs.Machine.{behind, insert, merged}
use Rattle.qd_score_model.specs.Kept.{RisesWithin, NeverFalls, times}

-- one, where two numbers are the same
abbrev one_if : ℕ → ℕ → ℕ
one_if n x = cond (x == n) 1 0

times_cons : (n x : ℕ) (xs : List ℕ) → times n (x ∷ xs) ≡ one_if n x + times n xs
times_cons n x xs = sum_by-cons (one_if n) x xs

one_if_same : (n x : ℕ) → x ≡ n → one_if n x ≡ 1
one_if_same n x e = ⊎_elim (λ (t : (eqb x n ≡ true) × (x ≡ n)). ap (λ b. cond b 1 0) t.0) (λ (t : (eqb x n ≡ false) × (x ≢ n)). absurd (t.1 e)) (eqb_tells x n)

one_if_other : (n x : ℕ) → x ≢ n → one_if n x ≡ 0
one_if_other n x ne = ⊎_elim (λ (t : (eqb x n ≡ true) × (x ≡ n)). absurd (ne t.1)) (λ (t : (eqb x n ≡ false) × (x ≢ n)). ap (λ b. cond b 1 0) t.0) (eqb_tells x n)

one_if_le : (n x : ℕ) → one_if n x ≤ 1
one_if_le n x = ⊎_elim (λ (t : (eqb x n ≡ true) × (x ≡ n)). let e = one_if_same n x t.1 in omega arith) (λ (t : (eqb x n ≡ false) × (x ≢ n)). let e = one_if_other n x t.1 in omega arith) (eqb_tells x n)

pub rises_wider : (low high more : ℕ) (xs : List ℕ) → high ≤ more → RisesWithin low high xs → RisesWithin low more xs
rises_wider low high more [] le h = omega arith
rises_wider low high more (x ∷ xs) le h = (h.0, rises_wider x high more xs le h.1)

pub rises_lower : (low high less : ℕ) (xs : List ℕ) → less ≤ low → RisesWithin low high xs → RisesWithin less high xs
rises_lower low high less [] le h = omega arith
rises_lower low high less (x ∷ xs) le h = (omega (arith, h.0), h.1)

pub rises_le : (low high : ℕ) (xs : List ℕ) → RisesWithin low high xs → low ≤ high
rises_le low high [] h = h
rises_le low high (x ∷ xs) h = let a = rises_le x high xs h.1 in omega (arith, h.0)

pub rises_length : (low high : ℕ) (xs : List ℕ) → RisesWithin low high xs → length xs + low ≤ high
rises_length low high [] h = omega (arith, h)
rises_length low high (x ∷ xs) h = let a = rises_length x high xs h.1 in omega (arith, h.0, a)

-- as many as lie within the bounds are all that do
pub rises_full : (low count : ℕ) (xs : List ℕ) → RisesWithin low (low + count) xs → length xs ≡ count → xs ≡ behind low count
rises_full low zero [] h e = refl
rises_full low (suc count) [] h e = absurd (omega (arith, e))
rises_full low zero (x ∷ xs) h e = absurd (omega (arith, e))
rises_full low (suc count) (x ∷ xs) h e =
    let a = rises_length x (low + suc count) xs h.1 in
    let next : x ≡ suc low = omega (arith, h.0, a, e) in
    let high : low + suc count ≡ suc low + count = omega arith in
    ap₂ (λ (n : ℕ) (l : List ℕ). n ∷ l) next (rises_full (suc low) count xs (subst (λ n. RisesWithin (suc low) n xs) high (rises_lower x (low + suc count) (suc low) xs (omega (arith, next)) h.1)) (omega (arith, e)))

pub rises_behind : (n count high : ℕ) → n + count ≤ high → RisesWithin n high (behind n count)
rises_behind n zero high le = omega arith
rises_behind n (suc count) high le = (omega arith, rises_behind (suc n) count high (omega arith))

pub rises_append : (xs ys : List ℕ) (low mid high : ℕ) → RisesWithin low mid xs → RisesWithin mid high ys → RisesWithin low high (xs ++ ys)
rises_append [] ys low mid high h k = rises_lower mid high low ys h k
rises_append (x ∷ xs) ys low mid high h k = (h.0, rises_append xs ys x mid high h.1 k)

pub times_above : (n low high : ℕ) (xs : List ℕ) → high < n → RisesWithin low high xs → times n xs ≡ 0
times_above n low high [] lt h = refl
times_above n low high (x ∷ xs) lt h =
    let a = rises_le x high xs h.1 in
    let b = one_if_other n x (λ (e : x ≡ n). omega arith) in
    let c = times_above n x high xs lt h.1 in
    let d = times_cons n x xs in omega arith

pub times_below : (n low high : ℕ) (xs : List ℕ) → n ≤ low → RisesWithin low high xs → times n xs ≡ 0
times_below n low high [] le h = refl
times_below n low high (x ∷ xs) le h =
    let lt : low < x = h.0 in
    let b = one_if_other n x (λ (e : x ≡ n). omega arith) in
    let c = times_below n x high xs (omega arith) h.1 in
    let d = times_cons n x xs in omega arith

pub times_once : (n low high : ℕ) (xs : List ℕ) → RisesWithin low high xs → times n xs ≤ 1
times_once n low high [] h = zero-le
times_once n low high (x ∷ xs) h =
    let d = times_cons n x xs in
    let le = one_if_le n x in
    ⊎_elim (λ (t : (eqb x n ≡ true) × (x ≡ n)). let e : x ≡ n = t.1 in let c = times_below n x high xs (omega arith) h.1 in omega arith)
    (λ (t : (eqb x n ≡ false) × (x ≢ n)). let b = one_if_other n x t.1 in let c = times_once n x high xs h.1 in omega arith)
    (eqb_tells x n)

pub times_append : (n : ℕ) (xs ys : List ℕ) → times n (xs ++ ys) ≡ times n xs + times n ys
times_append n xs ys = sum_by-append (one_if n) xs ys

times_insert : (n x : ℕ) (xs : List ℕ) → times n (insert x xs) ≡ one_if n x + times n xs
times_insert n x [] = times_cons n x []
times_insert n x (y ∷ ys) = choose (times_insert n x ys) (nat_le x y)
  where
    choose : times n (insert x ys) ≡ one_if n x + times n ys → (b : Bool) → times n (if b then x ∷ y ∷ ys else y ∷ insert x ys) ≡ one_if n x + times n (y ∷ ys)
    choose a true = times_cons n x (y ∷ ys)
    choose a false = let b = times_cons n y (insert x ys) in let c = times_cons n y ys in omega arith

pub times_merged : (n : ℕ) (xs ys : List ℕ) → times n (merged xs ys) ≡ times n xs + times n ys
times_merged n [] ys = omega arith
times_merged n (x ∷ xs) ys = let a = times_insert n x (merged xs ys) in let b = times_merged n xs ys in let c = times_cons n x xs in omega arith

rises_insert : (x low high : ℕ) (xs : List ℕ) → RisesWithin low high xs → low < x → x ≤ high → times x xs ≡ 0 → RisesWithin low high (insert x xs)
rises_insert x low high [] h lt le none = (lt, le)
rises_insert x low high (y ∷ ys) h lt le none = choose (λ (s : y < x). rises_insert x y high ys h.1 s le later) (leb x y) (leb_tells x y)
  where
    apart : x ≢ y
    apart e = let a = one_if_same x y (sym e) in let b = times_cons x y ys in omega arith

    later : times x ys ≡ 0
    later = let b = times_cons x y ys in omega arith

    choose : (y < x → RisesWithin y high (insert x ys)) → (b : Bool) → ((b ≡ true) × (x ≤ y)) ⊎ ((b ≡ false) × (y < x)) → RisesWithin low high (if b then x ∷ y ∷ ys else y ∷ insert x ys)
    choose go true t = ⊎_elim (λ (s : (true ≡ true) × (x ≤ y)). let l : x ≤ y = s.1 in (lt, ((let ne = apart in omega arith), h.1))) (λ (s : (true ≡ false) × (y < x)). absurd (cc)) t
    choose go false t = ⊎_elim (λ (s : (false ≡ true) × (x ≤ y)). absurd (cc)) (λ (s : (false ≡ false) × (y < x)). (h.0, go s.1)) t

pub rises_merged : (low high : ℕ) (xs ys : List ℕ) → RisesWithin low high xs → RisesWithin low high ys → ((n : ℕ) → times n xs + times n ys ≤ 1) → RisesWithin low high (merged xs ys)
rises_merged low high [] ys h k once = k
rises_merged low high (x ∷ xs) ys h k once =
    let fewer = λ (n : ℕ). let a = times_cons n x xs in let b = once n in let r : times n xs + times n ys ≤ 1 = omega arith in r in
    let rest = rises_merged low high xs ys (rises_lower x high low xs (omega (arith, h.0)) h.1) k fewer in
    let a = times_cons x x xs in let b = once x in let c = one_if_same x x refl in let d = times_merged x xs ys in
    rises_insert x low high (merged xs ys) rest h.0 (rises_le x high xs h.1) (omega arith)

pub length_behind : (n count : ℕ) → length (behind n count) ≡ count
length_behind n zero = refl
length_behind n (suc count) = ap suc (length_behind (suc n) count)

length_insert : (x : ℕ) (xs : List ℕ) → length (insert x xs) ≡ suc (length xs)
length_insert x [] = refl
length_insert x (y ∷ ys) = choose (length_insert x ys) (nat_le x y)
  where
    choose : length (insert x ys) ≡ suc (length ys) → (b : Bool) → length (if b then x ∷ y ∷ ys else y ∷ insert x ys) ≡ suc (suc (length ys))
    choose h true = refl
    choose h false = ap suc h

pub length_merged : (xs ys : List ℕ) → length (merged xs ys) ≡ length xs + length ys
length_merged [] ys = omega arith
length_merged (x ∷ xs) ys = let a = length_insert x (merged xs ys) in let b = length_merged xs ys in omega arith

pub times_contains : (n : ℕ) (xs : List ℕ) (k : ℕ) → k < length xs → slice_index_or xs k n ≡ n → 0 < times n xs
times_contains n [] k lt e = absurd (omega arith)
times_contains n (x ∷ xs) zero lt e = let a = one_if_same n x e in let b = times_cons n x xs in omega arith
times_contains n (x ∷ xs) (suc k) lt e = let a = times_contains n xs k (omega arith) e in let b = times_cons n x xs in omega arith

module _ (found left : Record → ℕ) where
  pub never_falls_wider : (low high more : ℕ) (xs : List Record) → high ≤ more → NeverFalls found left low high xs → NeverFalls found left low more xs
  never_falls_wider low high more [] le h = omega arith
  never_falls_wider low high more (x ∷ xs) le h = (h.0, h.1, never_falls_wider (left x) high more xs le h.2)

  pub never_falls_push : (low mid high : ℕ) (xs : List Record) (x : Record) → NeverFalls found left low mid xs → mid ≤ found x → found x ≤ left x → left x ≤ high → NeverFalls found left low high (xs ++ x ∷ [])
  never_falls_push low mid high [] x h a b c = (omega arith, b, c)
  never_falls_push low mid high (y ∷ ys) x h a b c = (h.0, h.1, never_falls_push (left y) mid high ys x h.2 a b c)
