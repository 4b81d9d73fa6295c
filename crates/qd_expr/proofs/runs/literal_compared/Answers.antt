use Rattle.std.proofs.Common.{◌≡◌, Bool, List, None, subst, IfOk}
use Rattle.std.specs.Prelude.{IfSome}
use Rattle.qd_base.specs.declared.cell.Cell.{Cell}
use Rattle.qd_base.specs.Rows.{cell_at}
use Rattle.qd_rows.specs.Runs.{Spot, places_of_run}
use Rattle.qd_rows.specs.Sets.{row_of_place}
use Rattle.qd_value.specs.Cells.{compares}
use Rattle.qd_value.specs.Scalars.{cell_of}
use Rattle.qd_expr.proofs.RunLemmas.{map-same}
use Rattle.qd_expr.proofs.runs.literal_compared.Goals as goal

pub returns : goal.returns
returns g c =
    let there : Spot → Cell = λ p. cell_at (row_of_place c.args.rows.now (p, None)) c.args.at in
    let literal : Cell = cell_of c.args.literal in
    record {
      truths = subst (λ (l : List Bool). IfOk c.column_compared.result (λ found. IfSome found (λ v. v.items ≡ l)))
          (map-same (λ p. compares c.turned.result (there p) literal) (λ p. compares c.args.op literal (there p)) (places_of_run c.args.run) (λ p. c.turned.ensures.turned literal (there p)))
          c.column_compared.ensures.truths;
    }
