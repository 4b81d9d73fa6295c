use Rattle.std.proofs.Common.{ℕ, List, [], ◌∷◌, ◌++◌}
use Rattle.std.specs.Fmt.{decimal}
use Rattle.qd_pgwire.proofs.AppendLemmas.{and_then, first_then, room_for}
use Rattle.qd_pgwire.proofs.reply.push_complete.Goals as goal

pub end-requires : goal.end-requires
end-requires c =
    let out = c.args.out.now.items in
    let begun : List ℕ = out ++ 67 ∷ 0 ∷ 0 ∷ 0 ∷ 0 ∷ [] in
    let p1 = first_then begun c.args.word.now _ _ c.in_ok-at.ensures.bytes c.in_ok-extend_from_slice.ensures.items in
    let p2 = and_then begun c.args.word.now (decimal c.args.n) _ _ p1 c.in_ok-push_number.ensures in
    let p3 = and_then begun (c.args.word.now ++ decimal c.args.n) (0 ∷ []) _ _ p2 c.in_ok-push.ensures.items in
    room_for out _ _ 67 _ c.in_ok-at.ensures.place p3

pub returns : goal.returns
returns c =
    let out = c.args.out.now.items in
    let begun : List ℕ = out ++ 67 ∷ 0 ∷ 0 ∷ 0 ∷ 0 ∷ [] in
    let p1 = first_then begun c.args.word.now _ _ c.in_ok-at.ensures.bytes c.in_ok-extend_from_slice.ensures.items in
    let p2 = and_then begun c.args.word.now (decimal c.args.n) _ _ p1 c.in_ok-push_number.ensures in
    let p3 = and_then begun (c.args.word.now ++ decimal c.args.n) (0 ∷ []) _ _ p2 c.in_ok-push.ensures.items in
    c.in_ok-end.ensures out ((c.args.word.now ++ decimal c.args.n) ++ 0 ∷ []) 67 c.in_ok-at.ensures.place p3
