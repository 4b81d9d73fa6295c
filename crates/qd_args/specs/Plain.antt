-- Words that are no option.
use Rattle.std.specs.Prelude.{◌≡◌, ℕ, ◌==◌, Bool, true, not, List, [], ◌∷◌, IsUtf8}

-- a word that doesn't begin with a hyphen
abbrev pub is_plain : List ℕ → Bool
is_plain [] = true
is_plain (b ∷ bs) = not (b == 45)

-- a text in UTF-8 that doesn't begin with a hyphen
abbrev pub IsPlainText : List ℕ → Type 0
IsPlainText word = (is_plain word ≡ true) × IsUtf8 word

-- none of the words begins with a hyphen
abbrev pub ArePlain : List (List ℕ) → Type 0
ArePlain [] = Unit {0}
ArePlain (word ∷ words) = (is_plain word ≡ true) × ArePlain words
