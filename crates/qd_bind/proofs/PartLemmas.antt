-- What is answered for two parts of a statement gives what is answered for both. `qd_meaning` proves it as a law; here it is said of
-- lists as they stand in proofs.
use Rattle.std.proofs.Common.{◌≡◌, ℕ, ◌<◌, ◌≤◌, ◌⊎◌, inl, inr, Bool, true, false, ◌&&◌, ◌||◌, ltb, leb, eqb, List, [], ◌∷◌, ◌++◌, Option, Some, None, refl, sym, ap, ◌∙◌, true≢false, arith, if◌then◌else◌}
use Rattle.std.specs.Prelude.{IsTrue}
use Rattle.std.proofs.lemmas.Bool.{ltb-true, leb-true, eqb-true, lt-ltb, le-leb, cases_lt}
use Rattle.qd_meaning.specs.declared.refusal.Refusal.{Refusal}
use Rattle.qd_meaning.specs.Refusals.{rank, goes_first, lesser, least, sooner}

-- ---- the order of two pairs of numbers

abbrev comes : ℕ → ℕ → ℕ → ℕ → Bool
comes m i n j = ltb m n || (eqb m n && leb i j)

abbrev Comes : ℕ → ℕ → ℕ → ℕ → Type 0
Comes m i n j = (m < n) ⊎ ((m ≡ n) × (i ≤ j))

comes-true : (m i n j : ℕ) → comes m i n j ≡ true → Comes m i n j
comes-true m i n j h = go (ltb m n) (eqb m n) (leb i j) refl refl refl h
  where
    go : (p q r : Bool) → ltb m n ≡ p → eqb m n ≡ q → leb i j ≡ r → (p || (q && r)) ≡ true → Comes m i n j
    go true q r e f g h = inl (ltb-true m n e)
    go false true true e f g h = inr (eqb-true m n f, leb-true i j g)
    go false true false e f g h = absurd (true≢false (sym h))
    go false false r e f g h = absurd (true≢false (sym h))

or_true : (p : Bool) → (p || true) ≡ true
or_true true = refl
or_true false = refl

eqb-refl : (n : ℕ) → eqb n n ≡ true
eqb-refl n = grind arith

true-comes : (m i n j : ℕ) → Comes m i n j → comes m i n j ≡ true
true-comes m i n j (inl lt) = rw (lt-ltb m n lt) refl
true-comes m i n j (inr h) = rw (h.0, eqb-refl n, le-leb i j h.1) (or_true (ltb n n))

comes-trans : (m i n j o k : ℕ) → Comes m i n j → Comes n j o k → Comes m i o k
comes-trans m i n j o k (inl a) (inl b) = inl (omega arith)
comes-trans m i n j o k (inl a) (inr b) = let e = b.0 in inl (omega arith)
comes-trans m i n j o k (inr a) (inl b) = let e = a.0 in inl (omega arith)
comes-trans m i n j o k (inr a) (inr b) = let e = a.0 in let f = b.0 in let g = a.1 in let h = b.1 in inr (omega arith, omega arith)

comes-total : (m i n j : ℕ) → comes m i n j ≡ false → Comes n j m i
comes-total m i n j h = by_rank (cases_lt n m) (cases_lt m n)
  where
    never : Comes m i n j → ⊥
    never c = true≢false (sym (true-comes m i n j c) ∙ h)

    by_place : m ≤ n → n ≤ m → (i < j) ⊎ (j ≤ i) → Comes n j m i
    by_place a b (inl lt) = absurd (never (inr (omega arith, omega arith)))
    by_place a b (inr le) = inr (omega arith, le)

    by_rank : (n < m) ⊎ (m ≤ n) → (m < n) ⊎ (n ≤ m) → Comes n j m i
    by_rank (inl lt) other = inl lt
    by_rank (inr le) (inl lt) = absurd (never (inl lt))
    by_rank (inr le) (inr ge) = by_place le ge (cases_lt i j)

-- ---- the order of refusals

trans : (a b c : Refusal) → IsTrue (goes_first a b) → IsTrue (goes_first b c) → IsTrue (goes_first a c)
trans a b c h k =
    true-comes (rank a.code) a.place (rank c.code) c.place
    (comes-trans (rank a.code) a.place (rank b.code) b.place (rank c.code) c.place (comes-true (rank a.code) a.place (rank b.code) b.place h)
    (comes-true (rank b.code) b.place (rank c.code) c.place k))

total : (a b : Refusal) → goes_first a b ≡ false → IsTrue (goes_first b a)
total a b h = true-comes (rank b.code) b.place (rank a.code) a.place (comes-total (rank a.code) a.place (rank b.code) b.place h)

-- ---- parts of a list

choose : (b c : Bool) (x y : Refusal) → b ≡ c → (if b then x else y) ≡ (if c then x else y)
choose b c x y e = ap (λ (t : Bool). if t then x else y) e

false-first : (x s t : Refusal) → goes_first x s ≡ false → goes_first s t ≡ false → goes_first x t ≡ false
false-first x s t e f = go (goes_first x t) refl
  where
    go : (b : Bool) → goes_first x t ≡ b → b ≡ false
    go true h = absurd (true≢false (sym (trans x t s h (total s t f)) ∙ e))
    go false h = refl

lesser-three : (x s t : Refusal) → lesser x (Some (lesser s (Some t))) ≡ lesser (lesser x (Some s)) (Some t)
lesser-three x s t = go (goes_first x s) (goes_first s t) refl refl
  where
    go : (a b : Bool) → goes_first x s ≡ a → goes_first s t ≡ b → lesser x (Some (if b then s else t)) ≡ lesser (if a then x else s) (Some t)
    go true true e f = choose (goes_first x s) true x s e ∙ sym (choose (goes_first x t) true x t (trans x s t e f))
    go true false e f = refl
    go false true e f = choose (goes_first x s) false x s e ∙ sym (choose (goes_first s t) true s t f)
    go false false e f = choose (goes_first x t) false x t (false-first x s t e f) ∙ sym (choose (goes_first s t) false s t f)

lesser-sooner : (x : Refusal) (o p : Option Refusal) → lesser x (sooner o p) ≡ lesser (lesser x o) p
lesser-sooner x None p = refl
lesser-sooner x (Some s) None = refl
lesser-sooner x (Some s) (Some t) = lesser-three x s t

pub least-append : (xs ys : List Refusal) → least (xs ++ ys) ≡ sooner (least xs) (least ys)
least-append [] ys = refl
least-append (x ∷ xs) ys = ap (λ (o : Option Refusal). Some (lesser x o)) (least-append xs ys) ∙ ap Some (lesser-sooner x (least xs) (least ys))
