-- How parts that stand one behind another are grouped.
use Rattle.std.proofs.Common.{◌≡◌, List, ◌++◌, refl, sym, ap, ◌∙◌, append_assoc}
use Rattle.qd_sql_lexer.specs.Tokens.{Lexeme}
use Rattle.qd_sql_laws.specs.Parts.{◌⋅◌}

-- another second part
pub second : {A B C : List Lexeme → Type 0} → ((us : List Lexeme) → B us → C us) → (ts : List Lexeme) → (A ⋅ B) ts → (A ⋅ C) ts
second f ts (o, r, p, x, y) = (o, r, p, x, f r y)

-- the first part's second part goes to what is behind
pub out_of : {A B C D : List Lexeme → Type 0} → ((us : List Lexeme) → (B ⋅ C) us → D us) → (ts : List Lexeme) → ((A ⋅ B) ⋅ C) ts → (A ⋅ D) ts
out_of f ts (o, r, p, (a, b, e, x, y), z) = (a, b ++ r, p ∙ ap (λ w. w ++ r) e ∙ append_assoc a b r, x, f (b ++ r) (b, r, refl, y, z))

-- and back
into_from : {A B C : List Lexeme → Type 0} (ts a w : List Lexeme) → ts ≡ a ++ w → A a → (B ⋅ C) w → ((A ⋅ B) ⋅ C) ts
into_from ts a w p x (b, r, e, y, z) = (a ++ b, r, p ∙ ap (λ v. a ++ v) e ∙ sym (append_assoc a b r), (a, b, refl, x, y), z)

pub into : {A B C D : List Lexeme → Type 0} → ((us : List Lexeme) → D us → (B ⋅ C) us) → (ts : List Lexeme) → (A ⋅ D) ts → ((A ⋅ B) ⋅ C) ts
into f ts (a, w, p, x, y) = into_from ts a w p x (f w y)
