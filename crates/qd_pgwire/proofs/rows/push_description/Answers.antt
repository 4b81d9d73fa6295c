use Rattle.std.proofs.Common.{ℕ, List, [], ◌∷◌, ◌++◌, length}
use Rattle.std.specs.List.{flat_map}
use Rattle.qd_pgwire.specs.Messages.{u16_bytes}
use Rattle.qd_pgwire.specs.Replies.{column_field}
use Rattle.qd_pgwire.proofs.AppendLemmas.{and_then, first_then, room_for}
use Rattle.qd_pgwire.proofs.rows.push_description.Goals as goal

pub end-requires : goal.end-requires
end-requires c =
    let out = c.args.out.now.items in
    let begun : List ℕ = out ++ 84 ∷ 0 ∷ 0 ∷ 0 ∷ 0 ∷ [] in
    let p1 = first_then begun (u16_bytes (length c.args.cols.now)) _ _ c.in_ok-at.ensures.bytes c.in_ok-push_count.ensures in
    let p2 = and_then begun (u16_bytes (length c.args.cols.now)) (flat_map column_field c.args.cols.now) _ _ p1 c.in_ok-push_columns.ensures in
    room_for out _ _ 84 _ c.in_ok-at.ensures.place p2

pub returns : goal.returns
returns c =
    let out = c.args.out.now.items in
    let begun : List ℕ = out ++ 84 ∷ 0 ∷ 0 ∷ 0 ∷ 0 ∷ [] in
    let p1 = first_then begun (u16_bytes (length c.args.cols.now)) _ _ c.in_ok-at.ensures.bytes c.in_ok-push_count.ensures in
    let p2 = and_then begun (u16_bytes (length c.args.cols.now)) (flat_map column_field c.args.cols.now) _ _ p1 c.in_ok-push_columns.ensures in
    c.in_ok-end.ensures out (u16_bytes (length c.args.cols.now) ++ flat_map column_field c.args.cols.now) 84 c.in_ok-at.ensures.place p2
