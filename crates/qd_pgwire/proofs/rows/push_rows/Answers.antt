use Rattle.std.proofs.Common.{ℕ, List, ◌++◌, length, ap, ◌∙◌}
use Rattle.std.specs.Prelude.{codes}
use Rattle.std.specs.Fmt.{decimal}
use Rattle.std.specs.List.{flat_map}
use Rattle.qd_pgwire.specs.Replies.{complete, data_row, parameter, ready_for_query, row_description}
use Rattle.qd_pgwire.proofs.AppendLemmas.{and_then}
use Rattle.qd_pgwire.proofs.rows.push_rows.Goals as goal

pub returns : goal.returns
returns c =
    let out = c.args.out.now.items in
    let table = c.args.table.now in
    let description = c.in_ok-push_description.ensures ∙ ap (λ cols. c.push_txn.new.out.items ++ row_description cols) c.as_slice.ensures.items in
    let rows = c.in_ok-push_data.ensures ∙ ap (λ rows. c.push_description.new.out.items ++ flat_map data_row rows) c.as_slice-2.ensures.items in
    let tag = c.in_ok-push_complete.ensures ∙ ap (λ n. c.push_data.new.out.items ++ complete (codes "SELECT " ++ decimal n)) c.len.ensures.count in
    let a1 : List ℕ = parameter (codes "txn") (decimal c.args.n) in
    let a2 : List ℕ = a1 ++ row_description table.cols in
    let a3 : List ℕ = a2 ++ flat_map data_row table.rows in
    let a4 : List ℕ = a3 ++ complete (codes "SELECT " ++ decimal (length table.rows)) in
    let p2 = and_then out a1 (row_description table.cols) _ _ c.in_ok-push_txn.ensures description in
    let p3 = and_then out a2 (flat_map data_row table.rows) _ _ p2 rows in
    let p4 = and_then out a3 (complete (codes "SELECT " ++ decimal (length table.rows))) _ _ p3 tag in
    and_then out a4 ready_for_query _ _ p4 c.in_ok-push_ready.ensures
