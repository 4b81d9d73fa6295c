use Rattle.std.proofs.Common.{◌+◌, ◌∙◌, List, [], arith, get_or, length, map, sym}
use Rattle.std.proofs.lemmas.List.{length-map}
use Rattle.qd_base.specs.Rows.{Row}
use Rattle.qd_base.specs.declared.schema.Col.{Col}
use Rattle.qd_print.specs.Printed.{csv_cell, csv_line, csv_text}
use Rattle.qd_meaning.specs.Answer.{output_row}
use Rattle.qd_order.specs.Cuts.{shown_rows}
use Rattle.qd_query.proofs.Lines.{large_at_end, large_so_far, lines_more, list_row, within_at}
use Rattle.qd_query.proofs.output.are_rows_too_large.Goals as goal

pub bounds-rows-get : goal.bounds-rows-get
bounds-rows-get c = within_at (length c.args.rows.now) c.args.places.now c.requires c.loop-k.k c.get.result c.get.ensures.place

pub loop-k-preserved : goal.loop-k-preserved
loop-k-preserved c =
    let p = c.args.plan.now in
    let rows = c.args.rows.now in
    let outs : List Row = shown_rows p rows in
    let header = csv_line (map (λ (c : Col). csv_text c.name) p.out) in
    lines_more outs c.args.places.now (length header) c.loop-k.k c.get.result c.loop-k.len c.line_of_row.result c.saturating_add-len.result (output_row p.picks p.out c.index-rows-get.result) c.get.ensures.place
    (list_row p rows c.get.result c.index-rows-get.result (within_at (length rows) c.args.places.now c.requires c.loop-k.k c.get.result c.get.ensures.place) c.index-rows-get.is)
    c.loop-k.invariant c.line_of_row.ensures c.saturating_add-len.ensures

pub returns-then-is_too_large : goal.returns-then-is_too_large
returns-then-is_too_large c =
    let p = c.args.plan.now in
    let outs : List Row = shown_rows p c.args.rows.now in
    let header = csv_line (map (λ (c : Col). csv_text c.name) p.out) in
    sym (large_so_far header (λ (row : Row). csv_line (map csv_cell row)) (map (λ i. get_or outs i []) c.args.places.now) (c.loop-k.k + 1) c.saturating_add-len.result
    (lines_more outs c.args.places.now (length header) c.loop-k.k c.get.result c.loop-k.len c.line_of_row.result c.saturating_add-len.result (output_row p.picks p.out c.index-rows-get.result) c.get.ensures.place
    (list_row p c.args.rows.now c.get.result c.index-rows-get.result (within_at (length c.args.rows.now) c.args.places.now c.requires c.loop-k.k c.get.result c.get.ensures.place) c.index-rows-get.is)
    c.loop-k.invariant c.line_of_row.ensures c.saturating_add-len.ensures)
    (sym c.if-is_too_large.ensures))

pub returns : goal.returns
returns c =
    let p = c.args.plan.now in
    let outs : List Row = shown_rows p c.args.rows.now in
    let rows : List Row = map (λ i. get_or outs i []) c.args.places.now in
    let header = csv_line (map (λ (c : Col). csv_text c.name) p.out) in
    c.is_too_large-large.ensures ∙ large_at_end header (λ (row : Row). csv_line (map csv_cell row)) rows c.loop-k.k c.loop-k.len c.loop-k.invariant (omega (arith, length-map c.args.places.now (λ i. get_or outs i [])))
