use Rattle.std.proofs.Common.{◌∙◌, List, ap, arith, false, map, refl}
use Rattle.std.proofs.lemmas.List.{take_all}
use Rattle.qd_base.specs.Rows.{Row}
use Rattle.qd_meaning.specs.Grouped.{key_of}
use Rattle.qd_rows.specs.Sets.{rows_in}
use Rattle.qd_order.specs.Cuts.{shown_rows}
use Rattle.qd_order.specs.Orders.{keyed}
use Rattle.qd_order.proofs.Reading.{columns_more}
use Rattle.qd_order.proofs.columns.columns_of_set.Goals as goal

pub loop-key-preserved : goal.loop-key-preserved
loop-key-preserved g c =
    let outs : List Row = shown_rows c.args.plan.now (map (key_of c.args.exprs.now) (rows_in c.args.rows.now)) in
    columns_more outs c.as_slice-key-items.result.now c.loop-key.key-index (0, false) c.loop-key.columns.items c.push.new.self.items _ c.loop-key-test.true c.loop-key.invariant c.in_ok-values.ensures.keys refl c.in_ok-push.ensures.items

pub returns : goal.returns
returns g c =
    let outs : List Row = shown_rows c.args.plan.now (map (key_of c.args.exprs.now) (rows_in c.args.rows.now)) in
    record { columns = c.loop-key.invariant ∙ ap (map (keyed outs)) (take_all c.loop-key.key-index c.as_slice-key-items.result.now (omega arith) ∙ c.as_slice-key-items.ensures.items) }
