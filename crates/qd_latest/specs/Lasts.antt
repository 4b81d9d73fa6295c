-- The last place of each number, and the items that stand at such places.
use Rattle.std.specs.Prelude.{◌≡◌, ℕ, suc, ◌<◌, ◌≤◌, ◌==◌, Bool, List, [], ◌∷◌, if◌then◌else◌, slice_index}

-- for each of the first n places the last one among them that has its number
pub record AreLast (numbers : List ℕ) (n : ℕ) (last : List ℕ) : Type 0 where
  pub behind : (i : ℕ) → i < n → i ≤ slice_index last (slice_index numbers i)
  pub below : (i : ℕ) → i < n → slice_index last (slice_index numbers i) < n
  pub same : (i : ℕ) → i < n → slice_index numbers (slice_index last (slice_index numbers i)) ≡ slice_index numbers i

-- whether the number at a place stands last there
abbrev pub stands : List ℕ → List ℕ → ℕ → Bool
stands numbers last i = slice_index last (slice_index numbers i) == i

-- the items whose places pass a test, the first one's place being given
abbrev pub places_where : {X : Type 0} → (ℕ → Bool) → ℕ → List X → List X
places_where test i [] = []
places_where test i (x ∷ xs) = if test i then x ∷ places_where test (suc i) xs else places_where test (suc i) xs
