use Rattle.std.proofs.Common.{◌∙◌, ap, inl, inr, sym, arith}
use Rattle.qd_meaning.specs.Grouped.{key_of}
use Rattle.qd_meaning.specs.Outputs.{shown_as}
use Rattle.qd_rows.specs.Sets.{row_of_place}
use Rattle.qd_order.proofs.Reading.{shown_at, shown_past}
use Rattle.qd_order.proofs.outputs.output_of_place.Goals as goal
use Rattle.qd_order.proofs.outputs.output_of_place.Goals.{else-at-len-via-then-at-len+else-at-len-2, else-at-len-via-else-at-len}

pub returns-then-at-len-2 : goal.returns-then-at-len-2
returns-then-at-len-2 g c =
    let col = c.get-then-at-len-2.result.now in
    record {
      value = c.shown.ensures ∙ ap (shown_as col.kind) c.value_of_place.ensures
          ∙ sym (shown_at c.args.plan.now.picks c.args.plan.now.out (key_of c.args.exprs.now (row_of_place c.args.rows.now c.args.place)) c.args.at c.get.result.now col c.get.ensures.item c.get-then-at-len-2.ensures.item);
    }

pub returns-else-at-len : goal.returns-else-at-len
returns-else-at-len g c =
    let row = key_of c.args.exprs.now (row_of_place c.args.rows.now c.args.place) in
    record {
      value = sym (shown_past c.args.plan.now.picks c.args.plan.now.out row c.args.at (elim c.else-at-len.branch [
        | else-at-len-via-then-at-len+else-at-len-2 w ↦ inr (omega arith)
        | else-at-len-via-else-at-len w ↦ inl (omega arith)
      ]));
    }
