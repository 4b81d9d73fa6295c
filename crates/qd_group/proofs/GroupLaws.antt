-- Groups split rows.
use Rattle.std.proofs.Common.{◌≡◌, ℕ, zero, suc, ◌+◌, ◌<◌, Bool, true, false, cond, List, [], ◌∷◌, length, map, filter, get_or, refl, sym, ap, ap₂, ◌∙◌, arith, All, true≢false, zero-add}
use Rattle.std.specs.Prelude.{not, ◌||◌, AllPairs, Contains, count_by}
use Rattle.std.specs.List.{list_any}
use Rattle.std.proofs.lemmas.List.Elements.{All-weaker, filter_passes}
use Rattle.std.proofs.lemmas.List.Sums.{sum_by-cons}
use Rattle.std.proofs.lemmas.List.Kept.{AllPairs-cons, AllPairs-filter}
use Rattle.qd_base.specs.Rows.{Row}
use Rattle.qd_value.specs.declared.bound.Bound.{Bound}
use Rattle.qd_meaning.specs.Grouped.{distinct, groups_of, key_of, keys_of, same_key}
use Rattle.qd_group.specs.Laws.{first_at, GroupsSplitRows}
use Rattle.qd_group.proofs.Distincts.{keys_equiv}

abbrev differs : Row → Row → Bool
differs k x = not (same_key k x)

from_not : (b : Bool) → not b ≡ true → b ≡ false
from_not true e = sym e
from_not false e = refl

-- the keys that are kept behind another one aren't the same
left_out : (k : Row) (xs : List Row) → All (λ y. same_key k y ≡ false) (filter (differs k) xs)
left_out k xs = All-weaker (λ (y : Row). differs k y ≡ true) (λ y. same_key k y ≡ false) (λ y e. from_not (same_key k y) e) (filter (differs k) xs) (filter_passes (differs k) xs)

-- ---- no two have the same key

apart : (ks : List Row) → AllPairs (λ a b. same_key a b ≡ false) (distinct ks)
apart [] = λ i j d lt low. absurd (omega arith)
apart (k ∷ ks) =
    AllPairs-cons (λ (a b : Row). same_key a b ≡ false) k (filter (differs k) (distinct ks)) (left_out k (distinct ks))
    (AllPairs-filter (λ (a b : Row). same_key a b ≡ false) (differs k) (distinct ks) (apart ks))

-- ---- in order of first appearance

later : (k y : Row) (ks : List Row) → same_key k y ≡ false → first_at y (k ∷ ks) ≡ first_at y ks + 1
later k y ks apart_ = ap (λ (b : Bool). cond b 0 (first_at y ks + 1)) (keys_equiv.symm y k ∙ apart_)

at_once : (k : Row) (ks : List Row) → first_at k (k ∷ ks) ≡ 0
at_once k ks = ap (λ (b : Bool). cond b 0 (first_at k ks + 1)) (keys_equiv.refl k)

firsts_rise : (ks : List Row) → AllPairs (λ a b. first_at a ks < first_at b ks) (distinct ks)
firsts_rise [] = λ i j d lt low. absurd (omega arith)
firsts_rise (k ∷ ks) =
    let kept : List Row = filter (differs k) (distinct ks) in
    let out : All (λ y. same_key k y ≡ false) kept = left_out k (distinct ks) in
    let before : AllPairs (λ a b. first_at a ks < first_at b ks) kept = AllPairs-filter (λ (a b : Row). first_at a ks < first_at b ks) (differs k) (distinct ks) (firsts_rise ks) in
    AllPairs-cons (λ (a b : Row). first_at a (k ∷ ks) < first_at b (k ∷ ks)) k kept
    (λ i d low. omega (arith, at_once k ks, later k (get_or kept i d) ks (out i d low)))
    (λ i j d lt low. omega (arith, later k (get_or kept i d) ks (out i d (omega arith)), later k (get_or kept j d) ks (out j d low), before i j d lt low))

-- ---- each row is in one

abbrev is_key : Row → Row → Bool
is_key k y = same_key y k

count_cons : (p : Row → Bool) (x : Row) (xs : List Row) → count_by p (x ∷ xs) ≡ cond (p x) 1 0 + count_by p xs
count_cons p x xs = sum_by-cons (λ y. cond (p y) 1 0) x xs

-- no other key is the same as one that is
none_more : (k x : Row) → same_key x k ≡ true → (ys : List Row) → count_by (is_key k) (filter (differs x) ys) ≡ 0
none_more k x is [] = refl
none_more k x is (y ∷ ys) = by (same_key x y) refl (none_more k x is ys)
  where
    by : (b : Bool) → same_key x y ≡ b → count_by (is_key k) (filter (differs x) ys) ≡ 0 → count_by (is_key k) (cond (not b) (y ∷ filter (differs x) ys) (filter (differs x) ys)) ≡ 0
    by true e rest = rest
    by false e rest =
        let apart_ : same_key y k ≡ false = keys_equiv.symm y k ∙ sym (keys_equiv.congr x k y is) ∙ e in
        count_cons (is_key k) y (filter (differs x) ys) ∙ ap₂ (λ (m n : ℕ). m + n) (ap (λ (b : Bool). cond b 1 0) apart_) rest

-- a key that isn't the same takes none away that are
all_kept : (k x : Row) → same_key x k ≡ false → (ys : List Row) → count_by (is_key k) (filter (differs x) ys) ≡ count_by (is_key k) ys
all_kept k x apart_ [] = refl
all_kept k x apart_ (y ∷ ys) = by (same_key x y) refl (all_kept k x apart_ ys)
  where
    by : (b : Bool) → same_key x y ≡ b → count_by (is_key k) (filter (differs x) ys) ≡ count_by (is_key k) ys
        → count_by (is_key k) (cond (not b) (y ∷ filter (differs x) ys) (filter (differs x) ys)) ≡ count_by (is_key k) (y ∷ ys)
    by true e rest =
        let none : same_key y k ≡ false = sym (keys_equiv.congr x y k e) ∙ apart_ in
        rest ∙ sym (count_cons (is_key k) y ys ∙ ap (λ (b : Bool). cond b 1 0 + count_by (is_key k) ys) none ∙ zero-add (count_by (is_key k) ys))
    by false e rest =
        count_cons (is_key k) y (filter (differs x) ys) ∙ ap (λ (n : ℕ). cond (same_key y k) 1 0 + n) rest ∙ sym (count_cons (is_key k) y ys)

count_one : (k : Row) (ks : List Row) → list_any (is_key k) ks ≡ true → count_by (is_key k) (distinct ks) ≡ 1
count_one k [] any = absurd (true≢false (sym any))
count_one k (x ∷ xs) any = count_cons (is_key k) x (filter (differs x) (distinct xs)) ∙ by (same_key x k) refl (count_one k xs)
  where
    by : (b : Bool) → same_key x k ≡ b → (list_any (is_key k) xs ≡ true → count_by (is_key k) (distinct xs) ≡ 1) → cond (same_key x k) 1 0 + count_by (is_key k) (filter (differs x) (distinct xs)) ≡ 1
    by true is rest = ap₂ (λ (m n : ℕ). m + n) (ap (λ (b : Bool). cond b 1 0) is) (none_more k x is (distinct xs))
    by false apart_ rest =
        ap₂ (λ (m n : ℕ). m + n) (ap (λ (b : Bool). cond b 1 0) apart_)
        (all_kept k x apart_ (distinct xs) ∙ rest (sym (ap (λ (b : Bool). b || list_any (is_key k) xs) apart_) ∙ any))

or_later : (a b : Bool) → b ≡ true → (a || b) ≡ true
or_later true b e = refl
or_later false b e = e

among : (keys : List Bound) (rows : List Row) (row : Row) (i : ℕ) → i < length rows → get_or rows i row ≡ row → list_any (is_key (key_of keys row)) (map (key_of keys) rows) ≡ true
among keys [] row i low is = absurd (omega arith)
among keys (r ∷ rs) row zero low is =
    ap (λ (b : Bool). b || list_any (is_key (key_of keys row)) (map (key_of keys) rs)) (ap (λ (x : Row). same_key (key_of keys x) (key_of keys row)) is ∙ keys_equiv.refl (key_of keys row))
among keys (r ∷ rs) row (suc i) low is =
    or_later (same_key (key_of keys r) (key_of keys row)) (list_any (is_key (key_of keys row)) (map (key_of keys) rs)) (among keys rs row i (omega arith) is)

-- ---- the law

distinct_groups : (keys : List Bound) (rows : List Row) → AllPairs (λ a b. same_key a b ≡ false) (groups_of keys rows)
distinct_groups [] rows = λ i j d lt low. absurd (omega arith)
distinct_groups (e ∷ es) rows = apart (map (key_of (e ∷ es)) rows)

one_group : (keys : List Bound) (rows : List Row) (row : Row) → Contains rows row → count_by (is_key (key_of keys row)) (groups_of keys rows) ≡ 1
one_group [] rows row has = refl
one_group (e ∷ es) rows row has = count_one (key_of (e ∷ es) row) (map (key_of (e ∷ es)) rows) (among (e ∷ es) rows row has.0 has.1 has.2)

groups_in_order : (keys : List Bound) (rows : List Row) → AllPairs (λ a b. first_at a (map (key_of keys) rows) < first_at b (map (key_of keys) rows)) (groups_of keys rows)
groups_in_order [] rows = λ i j d lt low. absurd (omega arith)
groups_in_order (e ∷ es) rows = firsts_rise (map (key_of (e ∷ es)) rows)

pub groups-split-rows : GroupsSplitRows
groups-split-rows = record { distinct = distinct_groups; one = one_group; order = groups_in_order }
