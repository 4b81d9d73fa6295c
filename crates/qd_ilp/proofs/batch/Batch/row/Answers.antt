use Rattle.std.proofs.Common.{◌≡◌, ◌∙◌, ◌+◌, ◌++◌, ◌∷◌, ◌<◌, ℕ, List, length, get_or, sym, ap, ap₂, subst, arith}
use Rattle.qd_ilp.specs.declared.item.Pair.{Pair}
use Rattle.qd_ilp.specs.declared.row.Head.{Head}
use Rattle.qd_ilp.specs.declared.row.KeptRow.{KeptRow}
use Rattle.qd_ilp.specs.Line.{Line, Row, Gives}
use Rattle.qd_ilp.specs.Whole.{Reading, blanks, lines_in, row_in, HeadFits, RowFits}
use Rattle.qd_ilp.specs.View.{rows_among, behind_rows}
use Rattle.qd_ilp.proofs.Viewed.{rows_counted, row_at, kept_at}
use Rattle.qd_ilp.proofs.batch.Batch.row.Goals as goal

pub index-kept-requires : goal.index-kept-requires
index-kept-requires c =
    let b = c.self.inside in
    let count : rows_among c.args.self.now.lines ≡ length b.rows.items = ap (λ (r : Reading). rows_among r.lines) (sym c.self.view_is) ∙ rows_counted b.bytes.items b.pairs.items b.rows.items b.behind in
    omega (arith, c.requires, count)

pub row_lent-row-requires : goal.row_lent-row-requires
row_lent-row-requires c =
    let b = c.self.inside in
    let count : rows_among c.args.self.now.lines ≡ length b.rows.items = ap (λ (r : Reading). rows_among r.lines) (sym c.self.view_is) ∙ rows_counted b.bytes.items b.pairs.items b.rows.items b.behind in
    let r = c.index-kept.result.now in
    let kept : RowFits b.bytes.items b.pairs.items (get_or b.rows.items c.args.i r) = kept_at (RowFits b.bytes.items b.pairs.items) b.rows.items c.args.i r c.self.invariant.each (omega (arith, c.requires, count)) in
    let here : HeadFits b.bytes.items b.pairs.items r.head = subst (λ (k : KeptRow). RowFits b.bytes.items b.pairs.items k) (sym c.index-kept.ensures) kept in
    subst (λ (bytes : List ℕ). HeadFits bytes c.as_slice-2.result.now r.head) (sym c.as_slice.ensures.value) (subst (λ (pairs : List Pair). HeadFits b.bytes.items pairs r.head) (sym c.as_slice-2.ensures.value) here)

pub returns : goal.returns
returns c =
    let b = c.self.inside in
    let count : rows_among c.args.self.now.lines ≡ length b.rows.items = ap (λ (r : Reading). rows_among r.lines) (sym c.self.view_is) ∙ rows_counted b.bytes.items b.pairs.items b.rows.items b.behind in
    let k = c.index-kept.result.now in
    let at = row_at b.bytes.items b.pairs.items c.args.i b.rows.items b.behind k (omega (arith, c.requires, count)) in
    let row : row_in b.bytes.items b.pairs.items k.head ≡ c.row_lent-row.result = ap₂ (λ (bytes : List ℕ) (pairs : List Pair). row_in bytes pairs k.head) (sym c.as_slice.ensures.value) (sym c.as_slice-2.ensures.value) ∙ sym c.row_lent-row.ensures.row in
    let whole = ap (λ (r : Reading). r.lines) c.self.view_is in
    record {
      row = ap (behind_rows c.args.i) (sym whole) ∙ at
          ∙ ap (λ (x : KeptRow). blanks x.blanks ++ Gives (row_in b.bytes.items b.pairs.items x.head) ∷ behind_rows (c.args.i + 1) (lines_in b.bytes.items b.pairs.items b.rows.items b.behind)) (sym c.index-kept.ensures)
          ∙ ap₂ (λ (x : Row) (ls : List Line). blanks k.blanks ++ Gives x ∷ behind_rows (c.args.i + 1) ls) row whole;
    }
