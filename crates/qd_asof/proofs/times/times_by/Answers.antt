use Rattle.std.proofs.Common.{◌≡◌, ◌<◌, ◌∙◌, ◌++◌, ◌∷◌, [], ℕ, List, sym, ap, ap₂, arith, length, map}
use Rattle.std.proofs.lemmas.List.{length-map, map_more, take_all}
use Rattle.qd_base.specs.Rows.{Row, time_in}
use Rattle.qd_expr.proofs.CellLemmas.{row_found}
use Rattle.qd_rows.specs.Sets.{row_of_place, rows_in}
use Rattle.qd_value.specs.Value.{value}
use Rattle.qd_asof.proofs.times.times_by.Goals as goal

pub loop-i-preserved : goal.loop-i-preserved
loop-i-preserved g c =
    let low : c.loop-i.i < length (rows_in c.args.rows.now) = omega (arith, length-map c.args.rows.now.places (row_of_place c.args.rows.now)) in
    c.in_ok-push.ensures.items
    ∙ ap₂ (λ (l : List ℕ) (t : ℕ). l ++ t ∷ []) c.loop-i.invariant
    (c.moment.ensures ∙ ap time_in (c.scalar.ensures.value ∙ ap (value c.args.expr.now) (sym (row_found c.args.rows.now c.loop-i.i c.places.result c.places.ensures.places))))
    ∙ sym (map_more (λ (r : Row). time_in (value c.args.expr.now r)) (rows_in c.args.rows.now) c.loop-i.i [] low)

pub returns : goal.returns
returns g c =
    record {
      times = c.loop-i.invariant ∙ ap (map (λ (r : Row). time_in (value c.args.expr.now r))) (take_all c.loop-i.i (rows_in c.args.rows.now) (omega (arith, length-map c.args.rows.now.places (row_of_place c.args.rows.now))));
    }
