-- The slots of a ring by their places, and that the rings of an array are apart.
use Rattle.std.proofs.Common.{◌≡◌, ℕ, zero, suc, ◌+◌, ◌<◌, ◌≤◌, List, ◌∷◌, length, map, get_or, take, drop, refl, sym, ap, ◌∙◌, add-one, arith, inl, inr, ◌⊎◌}
use Rattle.std.specs.List.{insert, remove}
use Rattle.std.proofs.lemmas.List.{get_or-map, get_or_past, length-map, map-append, take-map, drop-map}
use Rattle.std.proofs.lemmas.List.Edits.{get_or-insert_below, get_or-insert_at, get_or-insert_above, get_or-remove_below, get_or-remove_above}
use Rattle.qd_links.specs.Ring.{slot_at, IsRing}
use Rattle.qd_links.specs.declared.ring.Link.{Link}

pub slot_at-zero : (heads k : ℕ) (xs : List ℕ) → slot_at heads k xs 0 ≡ k
unfolding slot_at
slot_at-zero heads k xs = refl

pub slot_at-node : (heads k : ℕ) (xs : List ℕ) (i : ℕ) → i < length xs → slot_at heads k xs (i + 1) ≡ heads + get_or xs i 0
unfolding slot_at
slot_at-node heads k xs i h = rw add-one (get_or-map (λ x. heads + x) xs i 0 k h)

pub slot_at-end : (heads k : ℕ) (xs : List ℕ) (i : ℕ) → length xs ≤ i → slot_at heads k xs (i + 1) ≡ k
unfolding slot_at
slot_at-end heads k xs i h = rw add-one (get_or_past (map (λ x. heads + x) xs) i k (omega (arith, length-map xs (λ x. heads + x))))

-- the slots after a node was inserted
slots-insert : (heads k : ℕ) (xs : List ℕ) (i x : ℕ) → k ∷ map (λ n. heads + n) (insert xs i x) ≡ insert (k ∷ map (λ n. heads + n) xs) (suc i) (heads + x)
slots-insert heads k xs i x = ap (λ (l : List ℕ). k ∷ l) (map-append (λ n. heads + n) (take i xs) (x ∷ drop i xs) ∙ rw (take-map (λ n. heads + n) i xs, drop-map (λ n. heads + n) i xs))

pub slot_at-insert_below : (heads k : ℕ) (xs : List ℕ) (i x j : ℕ) → i ≤ length xs → j ≤ i → slot_at heads k (insert xs i x) j ≡ slot_at heads k xs j
unfolding slot_at
slot_at-insert_below heads k xs i x j i_in le =
    rw (slots-insert heads k xs i x)
    (get_or-insert_below (k ∷ map (λ n. heads + n) xs) (suc i) (heads + x) k j (omega arith) (omega (arith, length-map xs (λ n. heads + n))))

pub slot_at-insert_at : (heads k : ℕ) (xs : List ℕ) (i x : ℕ) → i ≤ length xs → slot_at heads k (insert xs i x) (i + 1) ≡ heads + x
unfolding slot_at
slot_at-insert_at heads k xs i x i_in =
    rw (slots-insert heads k xs i x, add-one)
    (get_or-insert_at (k ∷ map (λ n. heads + n) xs) (suc i) (heads + x) k (omega (arith, length-map xs (λ n. heads + n))))

pub slot_at-insert_above : (heads k : ℕ) (xs : List ℕ) (i x j : ℕ) → i ≤ length xs → i < j → slot_at heads k (insert xs i x) (j + 1) ≡ slot_at heads k xs j
unfolding slot_at
slot_at-insert_above heads k xs i x j i_in lt =
    rw (slots-insert heads k xs i x)
    (get_or-insert_above (k ∷ map (λ n. heads + n) xs) (suc i) (heads + x) k j (omega arith) (omega (arith, length-map xs (λ n. heads + n))))

-- the slots after a node was removed
slots-remove : (heads k : ℕ) (xs : List ℕ) (i : ℕ) → k ∷ map (λ n. heads + n) (remove xs i) ≡ remove (k ∷ map (λ n. heads + n) xs) (suc i)
slots-remove heads k xs i = ap (λ (l : List ℕ). k ∷ l) (map-append (λ n. heads + n) (take i xs) (drop (suc i) xs) ∙ rw (take-map (λ n. heads + n) i xs, drop-map (λ n. heads + n) (suc i) xs))

pub slot_at-remove_below : (heads k : ℕ) (xs : List ℕ) (i j : ℕ) → i < length xs → j ≤ i → slot_at heads k (remove xs i) j ≡ slot_at heads k xs j
unfolding slot_at
slot_at-remove_below heads k xs i j i_in le =
    rw (slots-remove heads k xs i)
    (get_or-remove_below (k ∷ map (λ n. heads + n) xs) (suc i) k j (omega arith) (omega (arith, length-map xs (λ n. heads + n))))

pub slot_at-remove_above : (heads k : ℕ) (xs : List ℕ) (i j : ℕ) → i < length xs → i < j → slot_at heads k (remove xs i) j ≡ slot_at heads k xs (j + 1)
unfolding slot_at
slot_at-remove_above heads k xs i j i_in lt =
    rw (slots-remove heads k xs i)
    (get_or-remove_above (k ∷ map (λ n. heads + n) xs) (suc i) k j (omega arith) (omega (arith, length-map xs (λ n. heads + n))))

-- two places with one node have one slot before them
slot_before : (ring : List Link) (heads k l : ℕ) (xs ys : List ℕ) → IsRing ring heads k xs → IsRing ring heads l ys → (i j : ℕ) → i < length xs → j < length ys → get_or xs i 0 ≡ get_or ys j 0 → slot_at heads k xs i ≡ slot_at heads l ys j
slot_before ring heads k l xs ys rk rl i j ix jy e =
    let a = (rk i (omega arith)).1 in
    let b = (rl j (omega arith)).1 in
    let sa = slot_at-node heads k xs i ix in
    let sb = slot_at-node heads l ys j jy in
    let s : slot_at heads k xs (i + 1) ≡ slot_at heads l ys (j + 1) = sa ∙ ap (λ n. heads + n) e ∙ sym sb in
    cc

-- two places with one node are one place
pub one_place : (ring : List Link) (heads k l : ℕ) (xs ys : List ℕ) → IsRing ring heads k xs → IsRing ring heads l ys → k < heads → l < heads → (i j : ℕ) → i < length xs → j < length ys → get_or xs i 0 ≡ get_or ys j 0 → (k ≡ l) × (i ≡ j)
one_place ring heads k l xs ys rk rl kh lh zero zero ix jy e =
    let s = slot_before ring heads k l xs ys rk rl 0 0 ix jy e in
    let a = slot_at-zero heads k xs in
    let b = slot_at-zero heads l ys in
    (cc, refl)
one_place ring heads k l xs ys rk rl kh lh zero (suc j) ix jy e =
    let s = slot_before ring heads k l xs ys rk rl 0 (suc j) ix jy e in
    let b : slot_at heads l ys (suc j) ≡ heads + get_or ys j 0 = rw (← add-one) (slot_at-node heads l ys j (omega arith)) in
    absurd (omega (arith, slot_at-zero heads k xs))
one_place ring heads k l xs ys rk rl kh lh (suc i) zero ix jy e =
    let s = slot_before ring heads k l xs ys rk rl (suc i) 0 ix jy e in
    let a : slot_at heads k xs (suc i) ≡ heads + get_or xs i 0 = rw (← add-one) (slot_at-node heads k xs i (omega arith)) in
    absurd (omega (arith, slot_at-zero heads l ys))
one_place ring heads k l xs ys rk rl kh lh (suc i) (suc j) ix jy e =
    let s = slot_before ring heads k l xs ys rk rl (suc i) (suc j) ix jy e in
    let a : slot_at heads k xs (suc i) ≡ heads + get_or xs i 0 = rw (← add-one) (slot_at-node heads k xs i (omega arith)) in
    let b : slot_at heads l ys (suc j) ≡ heads + get_or ys j 0 = rw (← add-one) (slot_at-node heads l ys j (omega arith)) in
    let ih : (k ≡ l) × (i ≡ j) = one_place ring heads k l xs ys rk rl kh lh i j (omega arith) (omega arith) (omega arith) in
    (ih.0, omega arith)

-- the cases of a place in a ring: its head, or one of its nodes
pub cases_slot : (heads k : ℕ) (xs : List ℕ) (i : ℕ) → i ≤ length xs → ((i ≡ 0) × (slot_at heads k xs i ≡ k)) ⊎ ((j : ℕ) × (i ≡ j + 1) × (j < length xs) × (slot_at heads k xs i ≡ heads + get_or xs j 0))
cases_slot heads k xs zero h = inl (refl, slot_at-zero heads k xs)
cases_slot heads k xs (suc i) h = inr (i, omega arith, omega arith, rw (← add-one) (slot_at-node heads k xs i (omega arith)))

-- two places of rings with one slot are one place
pub one_slot : (ring : List Link) (heads k l : ℕ) (xs ys : List ℕ) → IsRing ring heads k xs → IsRing ring heads l ys → k < heads → l < heads → (i j : ℕ) → i ≤ length xs → j ≤ length ys → slot_at heads k xs i ≡ slot_at heads l ys j → (k ≡ l) × (i ≡ j)
one_slot ring heads k l xs ys rk rl kh lh i j ix jy e =
    elim (cases_slot heads k xs i ix) [
      | inl a ↦ elim (cases_slot heads l ys j jy) [
        | inl b ↦ (omega arith, omega arith)
        | inr b ↦ absurd (omega (arith, b.3))
      ]
      | inr a ↦ elim (cases_slot heads l ys j jy) [
        | inl b ↦ absurd (omega (arith, a.3))
        | inr b ↦
            let p : (k ≡ l) × (a.0 ≡ b.0) = one_place ring heads k l xs ys rk rl kh lh a.0 b.0 a.2 b.2 (omega (arith, a.3, b.3)) in
            (p.0, omega (arith, a.1, b.1))
      ]
    ]

-- the same of the slots behind them
pub one_next_slot : (ring : List Link) (heads k l : ℕ) (xs ys : List ℕ) → IsRing ring heads k xs → IsRing ring heads l ys → k < heads → l < heads → (i j : ℕ) → i ≤ length xs → j ≤ length ys → slot_at heads k xs (i + 1) ≡ slot_at heads l ys (j + 1) → (k ≡ l) × (i ≡ j)
one_next_slot ring heads k l xs ys rk rl kh lh i j ix jy e =
    let a = (rk i ix).1 in
    let b = (rl j jy).1 in
    one_slot ring heads k l xs ys rk rl kh lh i j ix jy cc
