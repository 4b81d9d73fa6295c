-- Lists: images of parts and of chosen items.
use Rattle.std.proofs.Common.{◌≡◌, ℕ, zero, suc, ◌+◌, ◌-◌, ◌<◌, ◌≤◌, List, [], ◌∷◌, ◌++◌, Some, length, map, take, drop, get_or, refl, sym, ap, ◌∙◌, arith, All, slice_get, slice_range, length-drop, subst}
use Rattle.std.proofs.lemmas.List.{get_or-map, take_more, get_or-drop, length-map}
use Rattle.std.proofs.lemmas.Option.{slice_get-get_or}

-- chosen items of a list of images are the images of the chosen items
pub map-chosen : {S T : Type 0} (f : S → T) (xs : List S) (d : S) (e : T) (places : List ℕ) → All (λ i. i < length xs) places → map f (map (λ i. get_or xs i d) places) ≡ map (λ i. get_or (map f xs) i e) places
map-chosen f xs d e [] h = refl
map-chosen f xs d e (p ∷ ps) h = ap (λ y. y ∷ map f (map (λ i. get_or xs i d) ps)) (sym (get_or-map f xs p d e (h zero 0 (omega arith)))) ∙ ap (λ l. get_or (map f xs) p e ∷ l) (map-chosen f xs d e ps (λ k b lt. h (suc k) b (omega arith)))

-- what holds of each item holds of those chosen
pub each-chosen : {S : Type 0} (P : S → Type 0) (xs : List S) (d : S) (places : List ℕ) → All P xs → All (λ i. i < length xs) places → All P (map (λ i. get_or xs i d) places)
each-chosen P xs d places each within k b lt =
    let size = length-map places (λ i. get_or xs i d) in
    let low : k < length places = omega (arith, size) in
    subst P (sym (get_or-map (λ i. get_or xs i d) places k 0 b low)) (each (get_or places k 0) d (within k 0 low))

map-take : {S T : Type 0} (f : S → T) (n : ℕ) (xs : List S) → map f (take n xs) ≡ take n (map f xs)
map-take f zero xs = refl
map-take f (suc n) [] = refl
map-take f (suc n) (x ∷ xs) = ap (λ l. f x ∷ l) (map-take f n xs)

map-drop : {S T : Type 0} (f : S → T) (n : ℕ) (xs : List S) → map f (drop n xs) ≡ drop n (map f xs)
map-drop f zero xs = refl
map-drop f (suc n) [] = refl
map-drop f (suc n) (x ∷ xs) = map-drop f n xs

-- the images of a part
pub map-part : {S T : Type 0} (f : S → T) (xs : List S) (a b : ℕ) → map f (slice_range xs a b) ≡ slice_range (map f xs) a b
map-part f xs a b = map-take f (b - a) (drop a xs) ∙ ap (take (b - a)) (map-drop f a xs)

-- a part with one item more
pub part_more : {S : Type 0} (xs : List S) (a i : ℕ) (d : S) → a ≤ i → i < length xs → slice_range xs a (i + 1) ≡ slice_range xs a i ++ get_or xs i d ∷ []
part_more xs a i d low high =
    let count : i + 1 - a ≡ (i - a) + 1 = omega arith in
    let place : a + (i - a) ≡ i = omega arith in
    let item : get_or (drop a xs) (i - a) d ≡ get_or xs i d = get_or-drop a xs (i - a) d ∙ ap (λ n. get_or xs n d) place in
    ap (λ n. take n (drop a xs)) count ∙ take_more (drop a xs) (i - a) d (omega (arith, length-drop a xs)) ∙ ap (λ x. take (i - a) (drop a xs) ++ x ∷ []) item

pub part_none : {S : Type 0} (xs : List S) (a : ℕ) → slice_range xs a a ≡ []
part_none xs a = let none : a - a ≡ 0 = omega arith in ap (λ n. take n (drop a xs)) none

-- an item that is got is the one that is read
pub got : {S : Type 0} (xs : List S) (i : ℕ) (d x : S) → i < length xs → slice_get xs i ≡ Some x → get_or xs i d ≡ x
got xs i d x h e = let f : Some (get_or xs i d) ≡ Some x = sym (slice_get-get_or xs i d h) ∙ e in cc
