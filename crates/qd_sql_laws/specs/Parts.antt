-- What the rules of the grammar are made of. A part says of a list of tokens whether it is spelled so; the tokens of two
-- parts are those of the first with those of the second behind.
use Rattle.std.specs.Prelude.{◌≡◌, ℕ, true, List, [], ◌∷◌, ◌++◌, ◌⊎◌, Option, Some, None}
use Rattle.qd_sql_lexer.specs.declared.token.Kind.{Kind}
use Rattle.qd_sql_lexer.specs.declared.token.Kind.TheVariants as kind
use Rattle.qd_sql_ast.specs.declared.tree.Name.{Name}
use Rattle.qd_sql_ast.specs.declared.tree.Number.{Number}
use Rattle.qd_sql_ast.specs.declared.tree.StrideOf.{StrideOf}
use Rattle.qd_sql_ast.specs.declared.tree.Text.{Text}
use Rattle.qd_sql_lexer.specs.Tokens.{Lexeme}
use Rattle.qd_sql_ast.specs.Ranges as range
use Rattle.qd_sql_ast.specs.Steps.{same_kind, is_word, is_name, number_of, stride_count, stride_unit, unquoted}

-- no token
abbrev pub Nothing : List Lexeme → Type 0
Nothing ts = ts ≡ []

-- one token, of which something holds
abbrev pub One : (Lexeme → Type 0) → List Lexeme → Type 0
One Holds ts = (t : Lexeme) × (ts ≡ t ∷ []) × Holds t

-- one part and another behind it
infixr 30 ◌⋅◌
abbrev pub ◌⋅◌ : (List Lexeme → Type 0) → (List Lexeme → Type 0) → List Lexeme → Type 0
◌⋅◌ First Second ts = (front : List Lexeme) × (behind : List Lexeme) × (ts ≡ front ++ behind) × First front × Second behind

-- a part or nothing
abbrev pub Perhaps : (List Lexeme → Type 0) → List Lexeme → Type 0
Perhaps Part ts = Nothing ts ⊎ Part ts

-- what is there, where it is
abbrev pub Optional : {A : Type 0} → (A → List Lexeme → Type 0) → Option A → List Lexeme → Type 0
Optional Part None = Nothing
Optional Part (Some x) = Part x

-- each of these, from left to right
abbrev pub Each : {A : Type 0} → (A → List Lexeme → Type 0) → List A → List Lexeme → Type 0
Each Part [] = Nothing
Each Part (x ∷ xs) = Part x ⋅ Each Part xs

-- a sign, and its offset where the statement has it
abbrev pub SignAt : Kind → ℕ → List Lexeme → Type 0
SignAt k at = One (λ t. (same_kind t.kind k ≡ true) × (at ≡ t.at))

abbrev pub Sign : Kind → List Lexeme → Type 0
Sign k = One (λ t. same_kind t.kind k ≡ true)

-- a word, in whatever case
abbrev pub WordAt : List ℕ → ℕ → List Lexeme → Type 0
WordAt w at = One (λ t. (is_word w t ≡ true) × (at ≡ t.at))

abbrev pub Word : List ℕ → List Lexeme → Type 0
Word w = One (λ t. is_word w t ≡ true)

-- one or more, with commas between
abbrev pub Commas : {A : Type 0} → (A → List Lexeme → Type 0) → List A → List Lexeme → Type 0
Commas Part [] ts = ⊥
Commas Part (x ∷ xs) ts = (Part x ⋅ Each (λ y. Sign kind.Comma ⋅ Part y) xs) ts

-- name = Word that isn't reserved | Quoted
abbrev pub IsName : Name → List Lexeme → Type 0
IsName n = One (λ t. (is_name t ≡ true) × (n ≡ record { at = t.at; text = t.content }))

-- Number; what is above the greatest number is that one here
abbrev pub IsNumber : Number → List Lexeme → Type 0
IsNumber n = One (λ t. (same_kind t.kind kind.Number ≡ true) × (n ≡ record { at = t.at; value = range.magnitude (number_of t.content) }))

-- Stride; a count out of its range is the nearest one here
abbrev pub IsStride : StrideOf → List Lexeme → Type 0
IsStride s = One (λ t. (same_kind t.kind kind.Stride ≡ true) × (s ≡ record { at = t.at; count = range.stride_count (stride_count t.content); unit = stride_unit t.content }))

-- Text
abbrev pub IsText : Text → List Lexeme → Type 0
IsText x = One (λ t. (same_kind t.kind kind.Text ≡ true) × (x ≡ record { at = t.at; text = unquoted t.content }))
