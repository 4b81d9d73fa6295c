use Rattle.std.proofs.Common.{◌+◌, ◌∙◌, List, [], arith, get_or, length, map, sym}
use Rattle.std.proofs.lemmas.List.{length-map}
use Rattle.qd_base.specs.Rows.{Row}
use Rattle.qd_base.specs.declared.schema.Col.{Col}
use Rattle.qd_print.specs.Printed.{csv_cell, csv_line, csv_text}
use Rattle.qd_meaning.specs.Answer.{output_row}
use Rattle.qd_meaning.specs.Grouped.{key_of}
use Rattle.qd_order.specs.Cuts.{shown_rows}
use Rattle.qd_rows.specs.Sets.{row_of_place, rows_in}
use Rattle.qd_query.proofs.Lines.{large_at_end, large_so_far, lines_more, set_row, within_at}
use Rattle.qd_query.proofs.output.is_set_too_large.Goals as goal

pub places-place-requires : goal.places-place-requires
places-place-requires g c = within_at (length c.args.rows.now.places) c.args.places.now c.requires c.loop-k.k c.get.result c.get.ensures.place

pub loop-k-preserved : goal.loop-k-preserved
loop-k-preserved g c =
    let p = c.args.plan.now in
    let es = c.args.exprs.now in
    let s = c.args.rows.now in
    let outs : List Row = shown_rows p (map (key_of es) (rows_in s)) in
    let header = csv_line (map (λ (c : Col). csv_text c.name) p.out) in
    lines_more outs c.args.places.now (length header) c.loop-k.k c.get.result c.loop-k.len c.line_of_place.result c.saturating_add-len.result (output_row p.picks p.out (key_of es (row_of_place s c.places-place.result))) c.get.ensures.place
    (set_row p es s c.get.result c.places-place.result c.places-place.ensures.places) c.loop-k.invariant c.line_of_place.ensures c.saturating_add-len.ensures

pub returns-then-is_too_large : goal.returns-then-is_too_large
returns-then-is_too_large g c =
    let p = c.args.plan.now in
    let outs : List Row = shown_rows p (map (key_of c.args.exprs.now) (rows_in c.args.rows.now)) in
    let header = csv_line (map (λ (c : Col). csv_text c.name) p.out) in
    sym (large_so_far header (λ (row : Row). csv_line (map csv_cell row)) (map (λ i. get_or outs i []) c.args.places.now) (c.loop-k.k + 1) c.saturating_add-len.result
    (lines_more outs c.args.places.now (length header) c.loop-k.k c.get.result c.loop-k.len c.line_of_place.result c.saturating_add-len.result (output_row p.picks p.out (key_of c.args.exprs.now (row_of_place c.args.rows.now c.places-place.result))) c.get.ensures.place
    (set_row p c.args.exprs.now c.args.rows.now c.get.result c.places-place.result c.places-place.ensures.places) c.loop-k.invariant c.line_of_place.ensures c.saturating_add-len.ensures)
    (sym c.if-is_too_large.ensures))

pub returns : goal.returns
returns g c =
    let p = c.args.plan.now in
    let outs : List Row = shown_rows p (map (key_of c.args.exprs.now) (rows_in c.args.rows.now)) in
    let rows : List Row = map (λ i. get_or outs i []) c.args.places.now in
    let header = csv_line (map (λ (c : Col). csv_text c.name) p.out) in
    c.is_too_large-large.ensures ∙ large_at_end header (λ (row : Row). csv_line (map csv_cell row)) rows c.loop-k.k c.loop-k.len c.loop-k.invariant (omega (arith, length-map c.args.places.now (λ i. get_or outs i [])))
