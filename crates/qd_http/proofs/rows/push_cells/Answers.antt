use Rattle.std.proofs.Common.{arith}
use Rattle.qd_print.proofs.PrintLemmas.{field_step}
use Rattle.qd_http.specs.Json.{json_cell}
use Rattle.qd_http.proofs.rows.push_cells.Goals as goal

pub loop-i-preserved : goal.loop-i-preserved
loop-i-preserved c =
    field_step json_cell c.args.out.now.items c.args.cells.now c.loop-i.i c.index-cells-i.result (omega arith) c.index-cells-i.is _ _ _ c.loop-i.invariant c.in_ok-push_comma.ensures c.in_ok-push_cell.ensures
