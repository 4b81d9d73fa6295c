use Rattle.std.proofs.Common.{◌≡◌, ◌∙◌, Bool, List, map, not, slice_range, ap, sym}
use Rattle.qd_base.specs.declared.cell.Cell.{Cell}
use Rattle.qd_base.specs.declared.cell.Cell.TheVariants as cell
use Rattle.qd_value.specs.Cells.{compares}
use Rattle.qd_value.specs.declared.bound.Comparison.{Comparison}
use Rattle.qd_value.specs.declared.bound.Comparison.TheVariants as asks
use Rattle.qd_expr.proofs.ListLemmas.{map-map}
use Rattle.qd_expr.proofs.columns.against_text.Goals as goal

pub returns-in_ok-opposite-in-NotEqual : goal.returns-in_ok-opposite-in-NotEqual
returns-in_ok-opposite-in-NotEqual g c =
    let cells : List Cell = slice_range c.args.column.now.cells c.args.from c.args.to in
    let same : Cell → Bool = λ x. compares asks.Equal x (cell.Text c.args.y.now) in
    record {
      truths = c.in_ok-opposite-in-NotEqual.ensures.truths ∙ ap (map not) (c.as_slice.ensures.value ∙ c.in_ok-same-in-NotEqual.ensures.truths) ∙ map-map not same cells
          ∙ ap (λ (o : Comparison). map (λ x. compares o x (cell.Text c.args.y.now)) cells) (sym c.in-NotEqual.is);
    }
