use Rattle.std.proofs.Common.{ℕ, List, [], ◌∷◌, ◌++◌, ap, ◌∙◌, append_assoc, ◌≡◌}
use Rattle.std.specs.Prelude.{codes}
use Rattle.std.specs.Fmt.{decimal}
use Rattle.qd_pgwire.specs.Replies.{error, error_head, query_refusal_text, ready_for_query, refusal_text}
use Rattle.qd_pgwire.proofs.AppendLemmas.{and_then, room_for}
use Rattle.qd_pgwire.proofs.reply.push_query_refused.Goals as goal

regroup : (h a b d : List ℕ) → ((h ++ a) ++ b) ++ d ≡ h ++ ((a ++ b) ++ d)
regroup h a b d = simp append_assoc

pub end_error-requires : goal.end_error-requires
end_error-requires c =
    let out = c.args.out.now.items in
    let begun : List ℕ = out ++ 69 ∷ 0 ∷ 0 ∷ 0 ∷ 0 ∷ [] in
    let p1 = and_then begun error_head (refusal_text c.args.code c.args.place) _ _ c.in_ok-at.ensures.bytes c.in_ok-push_place.ensures in
    let p2 = and_then begun (error_head ++ (refusal_text c.args.code c.args.place)) (codes " txn ") _ _ p1 c.in_ok-extend_from_slice.ensures.items in
    let p3 = and_then begun ((error_head ++ (refusal_text c.args.code c.args.place)) ++ (codes " txn ")) (decimal c.args.n) _ _ p2 c.in_ok-push_number.ensures in
    room_for out _ _ 69 _ c.in_ok-at.ensures.place p3

pub returns : goal.returns
returns c =
    let out = c.args.out.now.items in
    let begun : List ℕ = out ++ 69 ∷ 0 ∷ 0 ∷ 0 ∷ 0 ∷ [] in
    let p1 = and_then begun error_head (refusal_text c.args.code c.args.place) _ _ c.in_ok-at.ensures.bytes c.in_ok-push_place.ensures in
    let p2 = and_then begun (error_head ++ (refusal_text c.args.code c.args.place)) (codes " txn ") _ _ p1 c.in_ok-extend_from_slice.ensures.items in
    let p3 = and_then begun ((error_head ++ (refusal_text c.args.code c.args.place)) ++ (codes " txn ")) (decimal c.args.n) _ _ p2 c.in_ok-push_number.ensures in
    and_then out (error (query_refusal_text c.args.n c.args.code c.args.place)) ready_for_query _ _ (c.in_ok-end_error.ensures out (query_refusal_text c.args.n c.args.code c.args.place) c.in_ok-at.ensures.place (p3 ∙ ap (λ (b : List ℕ). begun ++ b) (regroup error_head (refusal_text c.args.code c.args.place) (codes " txn ") (decimal c.args.n)))) c.in_ok-push_ready.ensures
