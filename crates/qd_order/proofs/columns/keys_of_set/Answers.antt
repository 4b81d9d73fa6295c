use Rattle.std.proofs.Common.{◌∙◌, ap, sym, arith, map}
use Rattle.std.proofs.lemmas.List.{take_all}
use Rattle.qd_expr.proofs.ListLemmas.{map-map}
use Rattle.qd_base.specs.declared.cell.Cell.{Cell}
use Rattle.qd_base.specs.Rows.{Row, cell_at}
use Rattle.qd_meaning.specs.Answer.{output_row}
use Rattle.qd_meaning.specs.Grouped.{key_of}
use Rattle.qd_expr.proofs.CellLemmas.{row_found}
use Rattle.qd_rows.specs.Sets.{row_of_place, rows_in}
use Rattle.qd_order.proofs.Reading.{keys_more, length_rows}
use Rattle.qd_order.proofs.columns.keys_of_set.Goals as goal

pub loop-i-preserved : goal.loop-i-preserved
loop-i-preserved g c =
    let f : Row → Cell = λ r. cell_at (output_row c.args.plan.now.picks c.args.plan.now.out (key_of c.args.exprs.now r)) c.args.at in
    keys_more f (rows_in c.args.rows.now) c.loop-i.i c.loop-i.keys.items c.push.new.self.items c.of.result (row_of_place c.args.rows.now c.places.result) (omega (arith, length_rows c.args.rows.now))
    (sym (row_found c.args.rows.now c.loop-i.i c.places.result c.places.ensures.places)) c.loop-i.invariant (c.of.ensures.same ∙ c.output_of_place-value.ensures.value) c.in_ok-push.ensures.items

pub returns : goal.returns
returns g c =
    let out : Row → Row = output_row c.args.plan.now.picks c.args.plan.now.out in
    let rows = rows_in c.args.rows.now in
    record {
      keys = c.loop-i.invariant
          ∙ ap (map (λ r. cell_at (out (key_of c.args.exprs.now r)) c.args.at)) (take_all c.loop-i.i rows (omega (arith, length_rows c.args.rows.now)))
          ∙ sym (ap (map (λ r. cell_at r c.args.at)) (map-map out (key_of c.args.exprs.now) rows) ∙ map-map (λ r. cell_at r c.args.at) (λ r. out (key_of c.args.exprs.now r)) rows);
    }
