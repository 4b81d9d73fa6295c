use Rattle.std.proofs.Common.{◌≡◌, ◌+◌, ◌-◌, take, drop, length-take, ℕ, ◌<◌, ◌≤◌, ◌/◌, ◌%◌, ◌∙◌, refl, Some, get_or, ap, sym, arith, length, cond, eqb, slice_range}
use Rattle.std.proofs.lemmas.Bool.{eq-eqb, ne_eqb}
use Rattle.qd_base.specs.declared.cell.Cell.TheVariants as cell
use Rattle.qd_column.specs.Texts.{text_cell, start_at}
use Rattle.qd_column.proofs.TextLemmas.{cell_at_row, row_within}
use Rattle.qd_column.proofs.texts.text_in.Goals as goal

pub returns-then-mark-eq1-clause-text : goal.returns-then-mark-eq1-clause-text
returns-then-mark-eq1-clause-text c =
    let null : text_cell c.args.bytes.now (start_at 0 c.args.marks.now c.args.i) (get_or c.args.marks.now c.args.i 0) ≡ cell.Null = rw (eq-eqb (get_or c.args.marks.now c.args.i 0 % 2) 1 c.if-mark-eq1.true) refl in
    cell_at_row c.args.bytes.now 0 c.args.marks.now c.args.i c.requires.row ∙ ap Some null

pub slice_bounds-result-count : goal.slice_bounds-result-count
slice_bounds-result-count c =
    let w = row_within 0 (length c.args.bytes.now) c.args.marks.now c.args.i c.requires.tiled c.requires.row in
    omega (arith, w.0, c.start_of-start.ensures.start)

pub slice_bounds-result-start : goal.slice_bounds-result-start
slice_bounds-result-start c =
    let w = row_within 0 (length c.args.bytes.now) c.args.marks.now c.args.i c.requires.tiled c.requires.row in
    omega (arith, w.0, w.1, c.start_of-start.ensures.start)

pub slice_bounds-result-end : goal.slice_bounds-result-end
slice_bounds-result-end c =
    let w = row_within 0 (length c.args.bytes.now) c.args.marks.now c.args.i c.requires.tiled c.requires.row in
    omega (arith, w.0, w.1, c.start_of-start.ensures.start)

pub returns-clause-text : goal.returns-clause-text
returns-clause-text c =
    let mark = get_or c.args.marks.now c.args.i 0 in
    let from : (n : ℕ) → n ≡ start_at 0 c.args.marks.now c.args.i → text_cell c.args.bytes.now (start_at 0 c.args.marks.now c.args.i) mark ≡ cell.Text (slice_range c.args.bytes.now n (mark / 2)) = λ n e. rw (ne_eqb (mark % 2) 1 c.if-mark-eq1.false) (ap (λ k. cell.Text (slice_range c.args.bytes.now k (mark / 2))) (sym e)) in
    cell_at_row c.args.bytes.now 0 c.args.marks.now c.args.i c.requires.row ∙ ap Some (from c.start_of-start.result c.start_of-start.ensures.start)

pub returns-clause-short : goal.returns-clause-short
returns-clause-short c =
    let w = row_within 0 (length c.args.bytes.now) c.args.marks.now c.args.i c.requires.tiled c.requires.row in
    let count : get_or c.args.marks.now c.args.i 0 / 2 - c.start_of-start.result ≤ 65535 = omega (arith, w.2, c.start_of-start.ensures.start) in
    omega (arith, length-take (get_or c.args.marks.now c.args.i 0 / 2 - c.start_of-start.result) (drop c.start_of-start.result c.args.bytes.now), count)
