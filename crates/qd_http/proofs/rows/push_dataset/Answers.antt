use Rattle.std.proofs.Common.{arith}
use Rattle.qd_print.proofs.PrintLemmas.{field_step}
use Rattle.qd_http.specs.Json.{json_row}
use Rattle.qd_http.proofs.rows.push_dataset.Goals as goal

pub loop-i-preserved : goal.loop-i-preserved
loop-i-preserved c =
    field_step json_row c.args.out.now.items c.args.rows.now c.loop-i.i c.index-rows-i.result (omega arith) c.index-rows-i.is _ _ _ c.loop-i.invariant c.in_ok-push_comma.ensures c.in_ok-push_row.ensures
