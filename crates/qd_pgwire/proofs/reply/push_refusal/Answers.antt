use Rattle.std.proofs.Common.{ℕ, List, [], ◌∷◌, ◌++◌}
use Rattle.qd_pgwire.specs.Replies.{error_head, refusal_text}
use Rattle.qd_pgwire.proofs.AppendLemmas.{and_then, room_for}
use Rattle.qd_pgwire.proofs.reply.push_refusal.Goals as goal

pub end_error-requires : goal.end_error-requires
end_error-requires c =
    let out = c.args.out.now.items in
    let begun : List ℕ = out ++ 69 ∷ 0 ∷ 0 ∷ 0 ∷ 0 ∷ [] in
    let p1 = and_then begun error_head (refusal_text c.args.code c.args.place) _ _ c.in_ok-at.ensures.bytes c.in_ok-push_place.ensures in
    room_for out _ _ 69 _ c.in_ok-at.ensures.place p1

pub returns : goal.returns
returns c =
    let out = c.args.out.now.items in
    let begun : List ℕ = out ++ 69 ∷ 0 ∷ 0 ∷ 0 ∷ 0 ∷ [] in
    let p1 = and_then begun error_head (refusal_text c.args.code c.args.place) _ _ c.in_ok-at.ensures.bytes c.in_ok-push_place.ensures in
    c.in_ok-end_error.ensures out (refusal_text c.args.code c.args.place) c.in_ok-at.ensures.place (p1)
