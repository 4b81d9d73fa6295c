use Rattle.std.proofs.Common.{arith}
use Rattle.qd_print.proofs.PrintLemmas.{field_step}
use Rattle.qd_http.specs.Json.{json_column}
use Rattle.qd_http.proofs.rows.push_columns.Goals as goal

pub loop-i-preserved : goal.loop-i-preserved
loop-i-preserved c =
    field_step json_column c.args.out.now.items c.args.cols.now c.loop-i.i c.index-cols-i.result (omega arith) c.index-cols-i.is _ _ _ c.loop-i.invariant c.in_ok-push_comma.ensures c.in_ok-push_column.ensures
