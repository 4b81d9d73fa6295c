-- Dictionaries: distinct texts, each known by its position.
use Rattle.std.specs.Prelude.{ℕ, Bool, List, [], ◌∷◌, ◌++◌, Option, if◌then◌else◌, nat_eq, nat_lt, length, position}
use Rattle.std.specs.List.{position_or_len, IsDistinct}
use Rattle.std.specs.Cmp.Lexicographic.{pointwise}

-- whether two texts are one
abbrev pub same_text : List ℕ → List ℕ → Bool
same_text a b = pointwise nat_eq a b

-- the id of a text, where it is there
abbrev pub id_in : List (List ℕ) → List ℕ → Option ℕ
id_in texts text = position (same_text text) texts

-- the id that a text has once it is there: its position, or the next one
abbrev pub id_for : List (List ℕ) → List ℕ → ℕ
id_for texts text = position_or_len (same_text text) texts

-- the texts with one that they may lack, which then goes last
abbrev pub with_text : List (List ℕ) → List ℕ → List (List ℕ)
with_text texts text = if nat_lt (id_for texts text) (length texts) then texts else texts ++ text ∷ []

-- no text stands twice
abbrev pub AreDistinct : List (List ℕ) → Type 0
AreDistinct texts = IsDistinct same_text texts
