-- What is appended piece by piece.
use Rattle.std.proofs.Common.{◌≡◌, ℕ, List, ◌++◌, length, take, drop, sym, ap, ◌∙◌, append_assoc}
use Rattle.std.proofs.lemmas.List.{drop_at, take_at}

-- a piece behind others
pub and_then : (before pieces piece out after : List ℕ) → out ≡ before ++ pieces → after ≡ out ++ piece → after ≡ before ++ (pieces ++ piece)
and_then before pieces piece out after so_far more = more ∙ (ap (λ t. t ++ piece) so_far ∙ append_assoc before pieces piece)

-- what stands behind a text, turned to its front
pub turned : (body head before after : List ℕ) (cut : ℕ) → before ≡ body ++ head → cut ≡ length body → after ≡ drop cut before ++ take cut before → after ≡ head ++ body
turned body head before after cut is at turn =
    turn ∙ (ap (λ b. drop cut b ++ take cut b) is ∙ (ap (λ t. t ++ take cut (body ++ head)) (drop_at body head cut (sym at)) ∙ ap (λ t. head ++ t) (take_at body head cut (sym at))))
