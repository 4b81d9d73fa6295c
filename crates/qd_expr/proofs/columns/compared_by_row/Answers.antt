use Rattle.std.proofs.Common.{◌≡◌, ◌∙◌, Bool, List, map, slice_range, ap, sym}
use Rattle.std.specs.List.{zip}
use Rattle.qd_base.specs.declared.cell.Cell.{Cell}
use Rattle.qd_column.specs.Cells.{long_cell}
use Rattle.qd_value.specs.Cells.{compares}
use Rattle.qd_expr.proofs.ListLemmas.{part_pairs}
use Rattle.qd_expr.proofs.columns.compared_by_row.Goals as goal

pub returns-in_ok-compared_pairs-in-Long-kind : goal.returns-in_ok-compared_pairs-in-Long-kind
returns-in_ok-compared_pairs-in-Long-kind g c =
    let from = c.args.from in
    let to = c.args.to in
    let pair : Cell × Cell → Bool = λ p. compares c.args.op p.0 p.1 in
    record {
      truths = c.in_ok-compared_pairs-in-Long-kind.ensures.truths ∙ part_pairs (compares c.args.op) long_cell c.longs-xs.result.now c.longs-ys.result.now from to
          ∙ ap (λ (cells : List Cell). map pair (zip (slice_range cells from to) (slice_range (map long_cell c.longs-ys.result.now) from to))) (sym c.longs-xs.ensures.cells)
          ∙ ap (λ (cells : List Cell). map pair (zip (slice_range c.args.x.now.cells from to) (slice_range cells from to))) (sym c.longs-ys.ensures.cells);
    }
