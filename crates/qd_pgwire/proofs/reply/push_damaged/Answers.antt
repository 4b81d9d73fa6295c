use Rattle.std.proofs.Common.{ℕ, List, [], ◌∷◌, ◌++◌, ap, ◌∙◌, append_assoc, ◌≡◌}
use Rattle.std.specs.Prelude.{codes}
use Rattle.std.specs.Fmt.{decimal}
use Rattle.qd_pgwire.specs.Replies.{damage_text, error, error_head, ready_for_query}
use Rattle.qd_pgwire.proofs.AppendLemmas.{and_then, room_for}
use Rattle.qd_pgwire.proofs.reply.push_damaged.Goals as goal

regroup : (h a b d e : List ℕ) → (((h ++ a) ++ b) ++ d) ++ e ≡ h ++ (((a ++ b) ++ d) ++ e)
regroup h a b d e = simp append_assoc

pub end_error-requires : goal.end_error-requires
end_error-requires c =
    let out = c.args.out.now.items in
    let begun : List ℕ = out ++ 69 ∷ 0 ∷ 0 ∷ 0 ∷ 0 ∷ [] in
    let p1 = and_then begun error_head (codes "damaged ") _ _ c.in_ok-begun.ensures.bytes c.in_ok-extend_from_slice.ensures.items in
    let p2 = and_then begun (error_head ++ (codes "damaged ")) (decimal c.args.file) _ _ p1 c.in_ok-push_number.ensures in
    let p3 = and_then begun ((error_head ++ (codes "damaged ")) ++ (decimal c.args.file)) (32 ∷ []) _ _ p2 c.in_ok-push.ensures.items in
    let p4 = and_then begun (((error_head ++ (codes "damaged ")) ++ (decimal c.args.file)) ++ (32 ∷ [])) (decimal c.args.at) _ _ p3 c.in_ok-push_number-2.ensures in
    room_for out _ _ 69 _ c.in_ok-begun.ensures.place p4

pub returns : goal.returns
returns c =
    let out = c.args.out.now.items in
    let begun : List ℕ = out ++ 69 ∷ 0 ∷ 0 ∷ 0 ∷ 0 ∷ [] in
    let p1 = and_then begun error_head (codes "damaged ") _ _ c.in_ok-begun.ensures.bytes c.in_ok-extend_from_slice.ensures.items in
    let p2 = and_then begun (error_head ++ (codes "damaged ")) (decimal c.args.file) _ _ p1 c.in_ok-push_number.ensures in
    let p3 = and_then begun ((error_head ++ (codes "damaged ")) ++ (decimal c.args.file)) (32 ∷ []) _ _ p2 c.in_ok-push.ensures.items in
    let p4 = and_then begun (((error_head ++ (codes "damaged ")) ++ (decimal c.args.file)) ++ (32 ∷ [])) (decimal c.args.at) _ _ p3 c.in_ok-push_number-2.ensures in
    and_then out (error (damage_text c.args.file c.args.at)) ready_for_query _ _ (c.in_ok-end_error.ensures out (damage_text c.args.file c.args.at) c.in_ok-begun.ensures.place (p4 ∙ ap (λ (b : List ℕ). begun ++ b) (regroup error_head (codes "damaged ") (decimal c.args.file) (32 ∷ []) (decimal c.args.at)))) c.in_ok-push_ready.ensures
