use Rattle.std.proofs.Common.{ℕ, List, [], ◌∷◌, ◌++◌, ap, ◌∙◌, append_assoc}
use Rattle.std.specs.Prelude.{codes}
use Rattle.std.specs.Fmt.{decimal}
use Rattle.qd_pgwire.specs.Messages.{string}
use Rattle.qd_pgwire.proofs.AppendLemmas.{and_then, first_then, room_for}
use Rattle.qd_pgwire.proofs.rows.push_txn.Goals as goal

pub end-requires : goal.end-requires
end-requires c =
    let out = c.args.out.now.items in
    let begun : List ℕ = out ++ 83 ∷ 0 ∷ 0 ∷ 0 ∷ 0 ∷ [] in
    let name : List ℕ = string (codes "txn") in
    let p1 = first_then begun name _ _ c.in_ok-at.ensures.bytes c.in_ok-extend_from_slice.ensures.items in
    let p2 = and_then begun name (decimal c.args.n) _ _ p1 c.in_ok-push_number.ensures in
    let p3 = and_then begun (name ++ decimal c.args.n) (0 ∷ []) _ _ p2 c.in_ok-push.ensures.items in
    room_for out _ _ 83 _ c.in_ok-at.ensures.place p3

pub returns : goal.returns
returns c =
    let out = c.args.out.now.items in
    let begun : List ℕ = out ++ 83 ∷ 0 ∷ 0 ∷ 0 ∷ 0 ∷ [] in
    let name : List ℕ = string (codes "txn") in
    let p1 = first_then begun name _ _ c.in_ok-at.ensures.bytes c.in_ok-extend_from_slice.ensures.items in
    let p2 = and_then begun name (decimal c.args.n) _ _ p1 c.in_ok-push_number.ensures in
    let p3 = and_then begun (name ++ decimal c.args.n) (0 ∷ []) _ _ p2 c.in_ok-push.ensures.items in
    c.in_ok-end.ensures out (name ++ string (decimal c.args.n)) 83 c.in_ok-at.ensures.place
    (p3 ∙ ap (λ (b : List ℕ). begun ++ b) (append_assoc name (decimal c.args.n) (0 ∷ [])))
