-- Lists that grow item by item to a part of another.
use Rattle.std.proofs.Common.{◌≡◌, ℕ, ◌+◌, ◌<◌, ◌≤◌, List, [], ◌∷◌, ◌++◌, length, map, get_or, sym, ap, ap₂, ◌∙◌, append-nil, append_assoc, slice_range}
use Rattle.qd_column.proofs.ListLemmas.{part_more, part_none}
use Rattle.qd_column.proofs.RunLemmas.{map-append}

-- the images of a part
pub grown_begun : {S T : Type 0} (f : S → T) (xs : List S) (from at : ℕ) (now : List T) → at ≡ from → now ≡ [] → now ≡ map f (slice_range xs from at)
grown_begun f xs from at now same none = none ∙ ap (map f) (sym (part_none xs from) ∙ ap (slice_range xs from) (sym same))

pub grown_next : {S T : Type 0} (f : S → T) (xs : List S) (from i : ℕ) (d : S) (now next : List T) (y : T) → from ≤ i → i < length xs → now ≡ map f (slice_range xs from i) → y ≡ f (get_or xs i d) → next ≡ now ++ y ∷ [] → next ≡ map f (slice_range xs from (i + 1))
grown_next f xs from i d now next y low high so_far is added =
    added ∙ ap₂ (λ l z. l ++ z ∷ []) so_far is ∙ sym (ap (map f) (part_more xs from i d low high) ∙ map-append f (slice_range xs from i) (get_or xs i d ∷ []))

-- the images of a part, behind others
pub images_begun : {S T : Type 0} (f : S → T) (xs : List S) (from at : ℕ) (front now : List T) → at ≡ from → now ≡ front → now ≡ front ++ map f (slice_range xs from at)
images_begun f xs from at front now same is = is ∙ sym (append-nil front) ∙ ap (λ l. front ++ l) (sym (ap (map f) (ap (slice_range xs from) same ∙ part_none xs from)))

pub images_next : {S T : Type 0} (f : S → T) (xs : List S) (from i : ℕ) (d : S) (front now next : List T) (y : T) → from ≤ i → i < length xs → now ≡ front ++ map f (slice_range xs from i) → y ≡ f (get_or xs i d) → next ≡ now ++ y ∷ [] → next ≡ front ++ map f (slice_range xs from (i + 1))
images_next f xs from i d front now next y low high so_far is added =
    added ∙ ap₂ (λ l z. l ++ z ∷ []) so_far is ∙ append_assoc front (map f (slice_range xs from i)) (f (get_or xs i d) ∷ []) ∙ ap (λ l. front ++ l) (sym (ap (map f) (part_more xs from i d low high) ∙ map-append f (slice_range xs from i) (get_or xs i d ∷ [])))

-- what is shown of items grows as a part's images do
pub shown_begun : {R S T : Type 0} (g : R → T) (f : S → T) (xs : List S) (from at : ℕ) (now : List R) → at ≡ from → now ≡ [] → map g now ≡ map f (slice_range xs from at)
shown_begun g f xs from at now same none = ap (map g) none ∙ sym (ap (map f) (ap (slice_range xs from) same ∙ part_none xs from))

pub shown_next : {R T : Type 0} (g : R → T) (shown more : List T) (now next : List R) (y : R) (t : T) → map g now ≡ shown → g y ≡ t → next ≡ now ++ y ∷ [] → more ≡ shown ++ t ∷ [] → map g next ≡ more
shown_next g shown more now next y t so_far is added grown = ap (map g) added ∙ map-append g now (y ∷ []) ∙ ap₂ (λ l z. l ++ z ∷ []) so_far is ∙ sym grown

pub images_more : {S T : Type 0} (f : S → T) (xs : List S) (from i : ℕ) (d : S) → from ≤ i → i < length xs → map f (slice_range xs from (i + 1)) ≡ map f (slice_range xs from i) ++ f (get_or xs i d) ∷ []
images_more f xs from i d low high = ap (map f) (part_more xs from i d low high) ∙ map-append f (slice_range xs from i) (get_or xs i d ∷ [])

-- a part behind others
pub behind_begun : {T : Type 0} (front xs : List T) (from at : ℕ) (now : List T) → at ≡ from → now ≡ front → now ≡ front ++ slice_range xs from at
behind_begun front xs from at now same is = is ∙ sym (append-nil front) ∙ ap (λ l. front ++ l) (sym (part_none xs from) ∙ ap (slice_range xs from) (sym same))

pub behind_next : {T : Type 0} (front xs : List T) (from i : ℕ) (d : T) (now next : List T) (y : T) → from ≤ i → i < length xs → now ≡ front ++ slice_range xs from i → y ≡ get_or xs i d → next ≡ now ++ y ∷ [] → next ≡ front ++ slice_range xs from (i + 1)
behind_next front xs from i d now next y low high so_far is added =
    added ∙ ap₂ (λ l z. l ++ z ∷ []) so_far is ∙ append_assoc front (slice_range xs from i) (get_or xs i d ∷ []) ∙ ap (λ l. front ++ l) (sym (part_more xs from i d low high))
