-- Steps of loops that make the cells and rows of buckets.
use Rattle.std.proofs.Common.{◌≡◌, ◌≢◌, ℕ, ◌+◌, ◌<◌, List, [], ◌∷◌, ◌++◌, length, map, take, fold, get_or, replicate, refl, sym, ap, ap₂, ◌∙◌, arith}
use Rattle.std.specs.List.{flat_map, range_with_len, zip}
use Rattle.std.proofs.lemmas.List.{append-nil, append_assoc, length-take, map-id, map_push, take_more}
use Rattle.std.proofs.lemmas.List.Concat.{flat_map-append}
use Rattle.std.proofs.lemmas.List.FromFn.{map-range_with_len_more}
use Rattle.std.proofs.lemmas.List.Sums.{fold_push}
use Rattle.qd_meaning.specs.declared.parts.Agg.{Agg}
use Rattle.qd_meaning.specs.declared.parts.Fill.{Fill}
use Rattle.qd_meaning.specs.declared.parts.Fill.TheVariants as fill
use Rattle.qd_meaning.specs.Sampled.{each_fill}

-- ---- fills

replicated : (f : Fill) (aggs : List Agg) → replicate (length aggs) f ≡ map (λ a. f) aggs
replicated f [] = refl
replicated f (a ∷ rest) = ap (λ l. f ∷ l) (replicated f rest)

-- one fill serves all aggregates
pub one_fill : (fills : List Fill) (aggs : List Agg) (count : ℕ) → length fills ≡ 1 → length aggs ≡ count → replicate count (get_or fills 0 fill.Skip) ≡ each_fill fills aggs
one_fill [] aggs count one size = absurd (omega (arith, one))
one_fill (f ∷ []) aggs count one size = ap (λ n. replicate n f) (sym size) ∙ replicated f aggs
one_fill (f ∷ g ∷ fs) aggs count one size = absurd (omega (arith, one))

pub own_fills : (fills : List Fill) (aggs : List Agg) → length fills ≢ 1 → fills ≡ each_fill fills aggs
own_fills [] aggs more = refl
own_fills (f ∷ []) aggs more = absurd (more refl)
own_fills (f ∷ g ∷ fs) aggs more = refl

-- ---- two lists side by side

zip_push : {X Y : Type 0} (xs : List X) (ys : List Y) (x : X) (y : Y) → length xs ≡ length ys → zip (xs ++ x ∷ []) (ys ++ y ∷ []) ≡ zip xs ys ++ (x, y) ∷ []
zip_push [] [] x y size = refl
zip_push [] (w ∷ ys) x y size = absurd (omega (arith, size))
zip_push (v ∷ xs) [] x y size = absurd (omega (arith, size))
zip_push (v ∷ xs) (w ∷ ys) x y size = ap (λ l. (v, w) ∷ l) (zip_push xs ys x y (omega (arith, size)))

pub zip_more : {X Y Z : Type 0} (f : X × Y → Z) (xs : List X) (ys : List Y) (i : ℕ) (d : X) (e : Y) → i < length xs → i < length ys
    → map f (zip (take (i + 1) xs) (take (i + 1) ys)) ≡ map f (zip (take i xs) (take i ys)) ++ f (get_or xs i d, get_or ys i e) ∷ []
zip_more f xs ys i d e low there =
    ap₂ (λ a b. map f (zip a b)) (take_more xs i d low) (take_more ys i e there)
    ∙ ap (map f) (zip_push (take i xs) (take i ys) (get_or xs i d) (get_or ys i e) (omega (arith, length-take i xs, length-take i ys, low, there)))
    ∙ map_push f (zip (take i xs) (take i ys)) (get_or xs i d, get_or ys i e)

-- ---- bucket after bucket

range_more : (n : ℕ) → range_with_len 0 (n + 1) ≡ range_with_len 0 n ++ n ∷ []
range_more n = sym (map-id (range_with_len 0 (n + 1))) ∙ map-range_with_len_more (λ k. k) 0 n n (omega arith) ∙ ap (λ l. l ++ n ∷ []) (map-id (range_with_len 0 n))

pub flat_range_more : {Y : Type 0} (f : ℕ → List Y) (n : ℕ) → flat_map f (range_with_len 0 (n + 1)) ≡ flat_map f (range_with_len 0 n) ++ f n
flat_range_more f n = ap (flat_map f) (range_more n) ∙ flat_map-append f (range_with_len 0 n) (n ∷ []) ∙ ap (λ l. flat_map f (range_with_len 0 n) ++ l) (append-nil (f n))

pub fold_range_more : {B : Type 0} (f : B → ℕ → B) (a : B) (n : ℕ) → fold f a (range_with_len 0 (n + 1)) ≡ f (fold f a (range_with_len 0 n)) n
fold_range_more f a n = ap (fold f a) (range_more n) ∙ fold_push f a (range_with_len 0 n) n

-- one item more behind some that were there
pub pushed : {X : Type 0} (first old new part more : List X) (x y : X) → old ≡ first ++ part → new ≡ old ++ x ∷ [] → x ≡ y → more ≡ part ++ y ∷ [] → new ≡ first ++ more
pushed first old new part more x y begun grown same whole = grown ∙ ap₂ (λ l z. l ++ z ∷ []) begun same ∙ append_assoc first part (y ∷ []) ∙ ap (λ l. first ++ l) (sym whole)
