use Rattle.std.proofs.Common.{ℕ, List, ◌++◌, length, ap, ◌∙◌, map}
use Rattle.std.specs.Prelude.{codes}
use Rattle.std.specs.Fmt.{decimal}
use Rattle.qd_http.specs.Json.{json_text, json_column, json_row, listed}
use Rattle.qd_http.proofs.AppendLemmas.{and_then}
use Rattle.qd_http.proofs.rows.push_rows.Goals as goal

pub returns : goal.returns
returns c =
    let out = c.args.out.now.items in
    let table = c.args.table.now in
    let columns = c.in_ok-push_columns.ensures ∙ ap (λ cols. c.extend_from_slice-2.new.self.items ++ listed (map json_column cols)) c.as_slice.ensures.items in
    let dataset = c.in_ok-push_dataset.ensures ∙ ap (λ rows. c.extend_from_slice-3.new.self.items ++ listed (map json_row rows)) c.as_slice-2.ensures.items in
    let count = c.in_ok-push_number.ensures ∙ ap (λ n. c.extend_from_slice-4.new.self.items ++ decimal n) c.len.ensures.count in
    let a0 : List ℕ = codes "{\"query\":" in
    let p1 = and_then out a0 (json_text c.args.statement.now) _ _ c.in_ok-extend_from_slice.ensures.items c.in_ok-push_text.ensures in
    let a1 : List ℕ = a0 ++ (json_text c.args.statement.now) in
    let p2 = and_then out a1 (codes ",\"columns\":[") _ _ p1 c.in_ok-extend_from_slice-2.ensures.items in
    let a2 : List ℕ = a1 ++ (codes ",\"columns\":[") in
    let p3 = and_then out a2 (listed (map json_column table.cols)) _ _ p2 columns in
    let a3 : List ℕ = a2 ++ (listed (map json_column table.cols)) in
    let p4 = and_then out a3 (codes "],\"dataset\":[") _ _ p3 c.in_ok-extend_from_slice-3.ensures.items in
    let a4 : List ℕ = a3 ++ (codes "],\"dataset\":[") in
    let p5 = and_then out a4 (listed (map json_row table.rows)) _ _ p4 dataset in
    let a5 : List ℕ = a4 ++ (listed (map json_row table.rows)) in
    let p6 = and_then out a5 (codes "],\"count\":") _ _ p5 c.in_ok-extend_from_slice-4.ensures.items in
    let a6 : List ℕ = a5 ++ (codes "],\"count\":") in
    let p7 = and_then out a6 (decimal (length table.rows)) _ _ p6 count in
    let a7 : List ℕ = a6 ++ (decimal (length table.rows)) in
    let p8 = and_then out a7 (codes ",\"txn\":") _ _ p7 c.in_ok-extend_from_slice-5.ensures.items in
    let a8 : List ℕ = a7 ++ (codes ",\"txn\":") in
    let p9 = and_then out a8 (decimal c.args.n) _ _ p8 c.in_ok-push_number-2.ensures in
    let a9 : List ℕ = a8 ++ (decimal c.args.n) in
    and_then out a9 (codes "}") _ _ p9 c.in_ok-push.ensures.items
