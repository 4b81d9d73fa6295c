use Rattle.std.proofs.Common.{◌≡◌, ℕ, List, [], ◌∷◌, ◌++◌, ap, ◌∙◌, append_assoc}
use Rattle.qd_pgwire.specs.Messages.{string}
use Rattle.qd_pgwire.specs.Replies.{error_head}
use Rattle.qd_pgwire.proofs.reply.end_error.Goals as goal

closing : (head text : List ℕ) → (head ++ text) ++ 0 ∷ 0 ∷ [] ≡ (head ++ (text ++ 0 ∷ [])) ++ 0 ∷ []
closing head text = simp append_assoc

pub returns : goal.returns
returns c before text place is =
    let begun : List ℕ = before ++ 69 ∷ 0 ∷ 0 ∷ 0 ∷ 0 ∷ [] in
    c.in_ok-end.ensures before ((error_head ++ string text) ++ 0 ∷ []) 69 place
    (c.in_ok-extend_from_slice.ensures.items
    ∙ (ap (λ (t : List ℕ). t ++ 0 ∷ 0 ∷ []) is
    ∙ (append_assoc begun (error_head ++ text) (0 ∷ 0 ∷ []) ∙ ap (λ (b : List ℕ). begun ++ b) (closing error_head text))))
