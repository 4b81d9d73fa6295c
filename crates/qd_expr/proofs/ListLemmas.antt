-- Lists of truths, and parts of lists.
use Rattle.std.proofs.Common.{◌≡◌, ℕ, zero, suc, ◌+◌, ◌-◌, ◌<◌, ◌≤◌, List, [], ◌∷◌, ◌++◌, length, map, take, drop, get_or, refl, sym, ap, ◌∙◌, arith, subst, slice_range, length-drop}
use Rattle.std.specs.Prelude.{Bool, true, false, ◌&&◌, ◌||◌, filter, cond}
use Rattle.std.specs.List.{range_with_len, list_all, list_any, zip}
use Rattle.std.proofs.Math.Seq.{drop-cons}
use Rattle.std.proofs.lemmas.List.{map-append}
use Rattle.qd_column.proofs.ListLemmas.{map-part}

pub map-map : {X Y Z : Type 0} (f : Y → Z) (g : X → Y) (xs : List X) → map f (map g xs) ≡ map (λ x. f (g x)) xs
map-map f g [] = refl
map-map f g (x ∷ xs) = ap (λ l. f (g x) ∷ l) (map-map f g xs)

-- images of the images of a part
pub part_image : {X Y Z : Type 0} (f : Y → Z) (g : X → Y) (xs : List X) (a b : ℕ) → map (λ x. f (g x)) (slice_range xs a b) ≡ map f (slice_range (map g xs) a b)
part_image f g xs a b = sym (map-map f g (slice_range xs a b)) ∙ ap (map f) (map-part g xs a b)

map_like : {X Y : Type 0} (f g : X → Y) (xs : List X) → ((x : X) → f x ≡ g x) → map f xs ≡ map g xs
map_like f g [] h = refl
map_like f g (x ∷ xs) h = ap (λ y. y ∷ map f xs) (h x) ∙ ap (λ l. g x ∷ l) (map_like f g xs h)

-- the images of a part, found otherwise
pub image_by : {X Y Z : Type 0} (f : X → Z) (g : X → Y) (h : Y → Z) (items : List Z) (xs : List X) (ys : List Y) (a b : ℕ) → ((x : X) → f x ≡ h (g x)) → items ≡ map f (slice_range xs a b) → ys ≡ map g xs → items ≡ map h (slice_range ys a b)
image_by {X} {Y} f g h items xs ys a b same e d =
    e ∙ map_like f (λ x. h (g x)) (slice_range xs a b) same ∙ part_image h g xs a b ∙ ap (λ (l : List Y). map h (slice_range l a b)) (sym d)

-- pairs of the images of one list, and of two
pub zip-with : {X A B C : Type 0} (h : A → B → C) (f : X → A) (g : X → B) (xs : List X) → map (λ (p : A × B). h p.0 p.1) (zip (map f xs) (map g xs)) ≡ map (λ x. h (f x) (g x)) xs
zip-with h f g [] = refl
zip-with h f g (x ∷ xs) = ap (λ l. h (f x) (g x) ∷ l) (zip-with h f g xs)

pub zip-images : {X Y Z : Type 0} (h : Y → Y → Z) (f : X → Y) (xs ys : List X) → map (λ (p : X × X). h (f p.0) (f p.1)) (zip xs ys) ≡ map (λ (p : Y × Y). h p.0 p.1) (zip (map f xs) (map f ys))
zip-images h f [] ys = refl
zip-images h f (x ∷ xs) [] = refl
zip-images h f (x ∷ xs) (y ∷ ys) = ap (λ l. h (f x) (f y) ∷ l) (zip-images h f xs ys)

pub part_pairs : {X Y Z : Type 0} (h : Y → Y → Z) (f : X → Y) (xs ys : List X) (a b : ℕ)
    → map (λ (p : X × X). h (f p.0) (f p.1)) (zip (slice_range xs a b) (slice_range ys a b)) ≡ map (λ (p : Y × Y). h p.0 p.1) (zip (slice_range (map f xs) a b) (slice_range (map f ys) a b))
part_pairs {X} {Y} h f xs ys a b =
    zip-images h f (slice_range xs a b) (slice_range ys a b)
    ∙ ap (λ (l : List Y). map (λ (p : Y × Y). h p.0 p.1) (zip l (map f (slice_range ys a b)))) (map-part f xs a b)
    ∙ ap (λ (l : List Y). map (λ (p : Y × Y). h p.0 p.1) (zip (slice_range (map f xs) a b) l)) (map-part f ys a b)

-- truths of the same list, both true at each position
pub zip-both : {X : Type 0} (f g : X → Bool) (xs : List X) → map (λ (p : Bool × Bool). p.0 && p.1) (zip (map f xs) (map g xs)) ≡ map (λ x. f x && g x) xs
zip-both f g [] = refl
zip-both f g (x ∷ xs) = ap (λ l. (f x && g x) ∷ l) (zip-both f g xs)

pub zip-either : {X : Type 0} (f g : X → Bool) (xs : List X) → map (λ (p : Bool × Bool). p.0 || p.1) (zip (map f xs) (map g xs)) ≡ map (λ x. f x || g x) xs
zip-either f g [] = refl
zip-either f g (x ∷ xs) = ap (λ l. (f x || g x) ∷ l) (zip-either f g xs)

one_more : (a : ℕ) → a + 1 ≡ suc a
one_more a = omega arith

-- the numbers of a range are those of a list from one place on
pub range_part : {X : Type 0} (xs : List X) (d : X) (a n : ℕ) → a + n ≤ length xs → map (λ i. get_or xs i d) (range_with_len a n) ≡ take n (drop a xs)
range_part xs d a zero h = refl
range_part xs d a (suc n) h =
    ap (λ l. get_or xs a d ∷ l) (range_part xs d (a + 1) n (omega arith) ∙ ap (λ k. take n (drop k xs)) (one_more a)) ∙ ap (take (suc n)) (sym (drop-cons xs a d (omega arith)))

add_zero : (a : ℕ) → a ≡ a + zero
add_zero a = omega arith

suc_add_one : (n : ℕ) → suc n + 1 ≡ suc (n + 1)
suc_add_one n = omega arith

add_suc : (a n : ℕ) → a + 1 + n ≡ a + suc n
add_suc a n = omega arith

range_next : (a n : ℕ) → range_with_len a (n + 1) ≡ range_with_len a n ++ (a + n) ∷ []
range_next a zero = ap (λ k. k ∷ []) (add_zero a)
range_next a (suc n) =
    ap (range_with_len a) (suc_add_one n) ∙ ap (λ l. a ∷ l) (range_next (a + 1) n) ∙ ap (λ k. a ∷ range_with_len (a + 1) n ++ k ∷ []) (add_suc a n)

-- the images of a range with one number more
pub row_more : (f : ℕ → Bool) (a i : ℕ) → a ≤ i → (x : Bool) → x ≡ f i → map f (range_with_len a (i + 1 - a)) ≡ map f (range_with_len a (i - a)) ++ x ∷ []
row_more f a i low x e =
    ap (λ k. map f (range_with_len a k)) count
    ∙ ap (map f) (range_next a (i - a))
    ∙ map-append f (range_with_len a (i - a)) ((a + (i - a)) ∷ [])
    ∙ ap (λ k. map f (range_with_len a (i - a)) ++ f k ∷ []) place
    ∙ ap (λ y. map f (range_with_len a (i - a)) ++ y ∷ []) (sym e)
  where
    count : i + 1 - a ≡ (i - a) + 1
    count = omega arith

    place : a + (i - a) ≡ i
    place = omega arith
