use Rattle.std.proofs.Common.{◌≡◌, ◌∙◌, ◌+◌, ◌++◌, ◌∷◌, [], List, map, take, ap, subst, append_assoc, sym, arith}
use Rattle.std.proofs.lemmas.List.{map_more}
use Rattle.qd_base.specs.declared.cell.Cell.{Cell}
use Rattle.qd_lines.specs.Cells.{named_cell}
use Rattle.qd_lines.specs.Sinks.{cell_lent, with_row}
use Rattle.qd_lines.proofs.ChangesLemmas.{with_cells-row}
use Rattle.qd_lines.proofs.cells.push_cells.Goals as goal

pub loop-j-preserved : goal.loop-j-preserved
loop-j-preserved g c =
    let cols = c.args.cols.now in
    let j = c.loop-j.j in
    let f = named_cell c.args.row.now.items in
    let xs = map f (take j cols) in
    λ table cells ops h.
    let more : (cells ++ xs) ++ cell_lent c.named.result ∷ [] ≡ cells ++ map f (take (j + 1) cols) =
    append_assoc cells xs (cell_lent c.named.result ∷ []) ∙ ap (λ (x : Cell). cells ++ (xs ++ x ∷ [])) (c.named.ensures.cell ∙ ap f c.index-cols-j.is) ∙ ap (λ (ys : List Cell). cells ++ ys) (sym (map_more f cols j c.index-cols-j.result (omega (arith, c.loop-j-test.true)))) in
    subst (g.T.OpSink.taken c.push_cell.new.self) (with_cells-row (cell_lent c.named.result ∷ []) (cells ++ xs) table ops ∙ ap (λ (ys : List Cell). with_row table ys ops) more)
    (c.in_ok-push_cell.ensures.ok (with_row table (cells ++ xs) ops) (c.loop-j.invariant table cells ops h))
