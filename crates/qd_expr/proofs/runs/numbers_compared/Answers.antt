use Rattle.std.proofs.Common.{◌∙◌, map, ap}
use Rattle.qd_column.specs.Cells.{long_cell}
use Rattle.qd_expr.proofs.NumberLemmas.{run_by_numbers}
use Rattle.qd_expr.proofs.runs.numbers_compared.Goals as goal

pub returns-in-Some-2 : goal.returns-in-Some-2
returns-in-Some-2 g c =
    record {
      truths = run_by_numbers c.args.rows.now c.args.run c.args.op c.args.x.now c.args.y.now c.as_slice.result.now c.as_slice-in-Some-2.result.now c.in_ok-found-in-Some-2.found.items
          (ap (map long_cell) c.as_slice.ensures.value ∙ rw c.in-Some.is at c.in_ok-left.ensures.values)
          (ap (map long_cell) c.as_slice-in-Some-2.ensures.value ∙ rw c.in-Some-2.is at c.in_ok-right-in-Some.ensures.values)
          c.in_ok-found-in-Some-2.ensures.truths;
    }
