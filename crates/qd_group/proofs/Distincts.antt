-- The distinct ones of some keys, from the front, and the rows of a group.
use Rattle.std.proofs.Common.{◌≡◌, ℕ, zero, suc, ◌+◌, ◌<◌, ◌≤◌, Bool, true, false, cond, eqb, List, [], ◌∷◌, ◌++◌, length, map, filter, take, get_or, refl, sym, ap, ap₂, ◌∙◌, arith, add-one}
use Rattle.std.specs.Prelude.{not, ◌||◌}
use Rattle.std.specs.List.{list_any}
use Rattle.std.specs.Cmp.{IsEquivalence}
use Rattle.std.proofs.lemmas.Bool.Decides.{same_from_decides, Decides-like}
use Rattle.std.proofs.lemmas.Cmp.{lists_equiv}
use Rattle.std.proofs.lemmas.List.{append-nil, length-take-le, take_more, map-append}
use Rattle.std.proofs.lemmas.List.Elements.{filter-append}
use Rattle.qd_base.specs.Rows.{Row, cell_eq}
use Rattle.qd_value.proofs.Orders.{cells-equal}
use Rattle.qd_meaning.specs.Grouped.{distinct, same_key}
use Rattle.qd_group.specs.Grouping.{leaders, members}
use Rattle.qd_group.proofs.Spots.{any-same, any-map}
use Rattle.qd_group.proofs.Leaders.{leader_below}

pub cells_equiv : IsEquivalence cell_eq
cells_equiv = record {
  refl = λ a. (cells-equal a a).1 refl;
  symm = λ a b. same_from_decides (cell_eq a b) (cell_eq b a) (cells-equal a b) (Decides-like (cell_eq b a) (λ e. sym e) (λ e. sym e) (cells-equal b a));
  congr = λ a b c e. ap (λ x. cell_eq x c) ((cells-equal a b).0 e);
}

pub keys_equiv : IsEquivalence same_key
keys_equiv = lists_equiv cells_equiv

-- an item that a filter leaves out is found by another test
any-filter : (c : Bool) (p q : Row → Bool) → ((y : Row) → p y ≡ true → q y ≡ false → c ≡ true) → (ys : List Row) → (c || list_any p (filter q ys)) ≡ (c || list_any p ys)
any-filter c p q left [] = refl
any-filter c p q left (y ∷ ys) = by (q y) (p y) refl refl (any-filter c p q left ys)
  where
    by : (b t : Bool) → q y ≡ b → p y ≡ t → (c || list_any p (filter q ys)) ≡ (c || list_any p ys) → (c || list_any p (cond b (y ∷ filter q ys) (filter q ys))) ≡ (c || (p y || list_any p ys))
    by true t out passes rest = swapped c (p y) (list_any p (filter q ys)) (list_any p ys) rest
      where
        swapped : (c t a b : Bool) → (c || a) ≡ (c || b) → (c || (t || a)) ≡ (c || (t || b))
        swapped true t a b e = refl
        swapped false true a b e = refl
        swapped false false a b e = e
    by false true out passes rest = let yes = left y passes out in ap (λ c. c || list_any p (filter q ys)) yes ∙ sym (ap (λ c. c || (p y || list_any p ys)) yes)
    by false false out passes rest = rest ∙ ap (λ t. c || (t || list_any p ys)) (sym passes)

abbrev differs : Row → Row → Bool
differs x y = not (same_key x y)

abbrev equals : Row → Row → Bool
equals k y = same_key y k

from_not : (b : Bool) → not b ≡ false → b ≡ true
from_not true e = refl
from_not false e = cc

or_true : (c : Bool) → (c || true) ≡ true
or_true true = refl
or_true false = refl

-- one key more at the end
pub distinct-push : (ks : List Row) (k : Row) → distinct (ks ++ k ∷ []) ≡ cond (list_any (λ y. same_key y k) (distinct ks)) (distinct ks) (distinct ks ++ k ∷ [])
distinct-push [] k = refl
distinct-push (x ∷ xs) k =
    ap (λ l. x ∷ filter (differs x) l) (distinct-push xs k)
    ∙ by (list_any (equals k) (distinct xs)) (same_key x k) refl
    ∙ ap (λ b. cond b (x ∷ filter (differs x) (distinct xs)) (x ∷ filter (differs x) (distinct xs) ++ k ∷ [])) (sym (any-filter (same_key x k) (equals k) (differs x) through (distinct xs)))
  where
    through : (y : Row) → same_key y k ≡ true → not (same_key x y) ≡ false → same_key x k ≡ true
    through y to out = keys_equiv.congr x y k (from_not (same_key x y) out) ∙ to

    by : (b t : Bool) → same_key x k ≡ t
        → (x ∷ filter (differs x) (cond b (distinct xs) (distinct xs ++ k ∷ []))) ≡ cond (same_key x k || b) (x ∷ filter (differs x) (distinct xs)) (x ∷ filter (differs x) (distinct xs) ++ k ∷ [])
    by true t e = ap (λ c. cond c (x ∷ filter (differs x) (distinct xs)) (x ∷ filter (differs x) (distinct xs) ++ k ∷ [])) (sym (or_true (same_key x k)))
    by false true e =
        ap (λ l. x ∷ l) (filter-append (differs x) (distinct xs) (k ∷ []) ∙ ap (λ c. filter (differs x) (distinct xs) ++ cond (not c) (k ∷ []) []) e ∙ append-nil (filter (differs x) (distinct xs)))
        ∙ ap (λ c. cond (c || false) (x ∷ filter (differs x) (distinct xs)) (x ∷ filter (differs x) (distinct xs) ++ k ∷ [])) (sym e)
    by false false e =
        ap (λ l. x ∷ l) (filter-append (differs x) (distinct xs) (k ∷ []) ∙ ap (λ c. filter (differs x) (distinct xs) ++ cond (not c) (k ∷ []) []) e)
        ∙ ap (λ c. cond (c || false) (x ∷ filter (differs x) (distinct xs)) (x ∷ filter (differs x) (distinct xs) ++ k ∷ [])) (sym e)

abbrev key_at : List Row → ℕ → Row
key_at keys i = get_or keys i []

-- the leaders' keys are the distinct ones
pub leaders_distinct : (same : ℕ → ℕ → Bool) (keys : List Row) → ((i j : ℕ) → i < length keys → j < length keys → same i j ≡ same_key (get_or keys i []) (get_or keys j [])) → (n : ℕ) → n ≤ length keys → map (λ i. get_or keys i []) (leaders same n) ≡ distinct (take n keys)
leaders_distinct same keys alike zero low = refl
leaders_distinct same keys alike (suc n) low =
    let before : map (key_at keys) (leaders same n) ≡ distinct (take n keys) = leaders_distinct same keys alike n (omega arith) in
    by (list_any (λ i. same i n) (leaders same n))
    ∙ ap₂ (λ b l. cond b l (l ++ key_at keys n ∷ [])) (any ∙ ap (list_any (λ x. same_key x (key_at keys n))) before) before
    ∙ sym (distinct-push (take n keys) (key_at keys n))
    ∙ ap distinct (sym (take_more keys n [] (omega arith)) ∙ ap (λ m. take m keys) (add-one n))
  where
    any : list_any (λ i. same i n) (leaders same n) ≡ list_any (λ x. same_key x (key_at keys n)) (map (key_at keys) (leaders same n))
    any = any-same (λ i. same i n) (λ i. same_key (key_at keys i) (key_at keys n)) (leaders same n) (λ k d there. alike (get_or (leaders same n) k d) n (let l = leader_below same n k d there in omega arith) (omega arith)) ∙ sym (any-map (λ x. same_key x (key_at keys n)) (key_at keys) (leaders same n))

    by : (b : Bool) → map (key_at keys) (cond b (leaders same n) (leaders same n ++ n ∷ [])) ≡ cond b (map (key_at keys) (leaders same n)) (map (key_at keys) (leaders same n) ++ key_at keys n ∷ [])
    by true = refl
    by false = map-append (key_at keys) (leaders same n) (n ∷ [])

-- ---- the items of a group

pub members-filter : {X : Type 0} (n : ℕ) (ns : List ℕ) (xs : List X) (p : X → Bool) (d : X) → length ns ≡ length xs → ((i : ℕ) → i < length xs → eqb (get_or ns i 0) n ≡ p (get_or xs i d)) → members n ns xs ≡ filter p xs
members-filter n [] [] p d size agree = refl
members-filter n [] (x ∷ xs) p d size agree = absurd (omega arith)
members-filter n (m ∷ ms) [] p d size agree = absurd (omega arith)
members-filter n (m ∷ ms) (x ∷ xs) p d size agree =
    ap₂ (λ b l. cond b (x ∷ l) l) (agree zero (omega arith)) (members-filter n ms xs p d (omega arith) (λ i low. agree (suc i) (omega arith)))

members-append : {X : Type 0} (n : ℕ) (ns : List ℕ) (m : ℕ) (xs : List X) (x : X) → length ns ≡ length xs → members n (ns ++ m ∷ []) (xs ++ x ∷ []) ≡ members n ns xs ++ cond (eqb m n) (x ∷ []) []
members-append n [] m [] x size = refl
members-append n [] m (y ∷ xs) x size = absurd (omega arith)
members-append n (k ∷ ns) m [] x size = absurd (omega arith)
members-append n (k ∷ ns) m (y ∷ xs) x size = ap (λ l. cond (eqb k n) (y ∷ l) l) (members-append n ns m xs x (omega arith)) ∙ by (eqb k n)
  where
    by : (b : Bool) → cond b (y ∷ (members n ns xs ++ cond (eqb m n) (x ∷ []) [])) (members n ns xs ++ cond (eqb m n) (x ∷ []) []) ≡ cond b (y ∷ members n ns xs) (members n ns xs) ++ cond (eqb m n) (x ∷ []) []
    by true = refl
    by false = refl

pub members_more : {X : Type 0} (n i : ℕ) (ns : List ℕ) (xs : List X) (d : X) → i < length ns → i < length xs → members n (take (i + 1) ns) (take (i + 1) xs) ≡ members n (take i ns) (take i xs) ++ cond (eqb (get_or ns i 0) n) (get_or xs i d ∷ []) []
members_more n i ns xs d low there =
    ap₂ (members n) (take_more ns i 0 low) (take_more xs i d there) ∙ members-append n (take i ns) (get_or ns i 0) (take i xs) (get_or xs i d) (length-take-le i ns (omega arith) ∙ sym (length-take-le i xs (omega arith)))
