use Rattle.std.proofs.Common.{◌∙◌, ◌++◌, ◌∷◌, [], ℕ, List, ap, ap₂, sym, arith, map}
use Rattle.std.proofs.lemmas.List.{map_more, take_all}
use Rattle.qd_base.specs.Rows.{time_of}
use Rattle.qd_expr.proofs.CellLemmas.{row_found}
use Rattle.qd_group.proofs.Assembly.{length_rows}
use Rattle.qd_rows.specs.Sets.{rows_in}
use Rattle.qd_sample.proofs.times.times_by_row.Goals as goal

pub loop-i-preserved : goal.loop-i-preserved
loop-i-preserved g c =
    c.in_ok-push.ensures.items
    ∙ ap₂ (λ (l : List ℕ) (x : ℕ). l ++ x ∷ []) c.loop-i.invariant (c.time_at.ensures ∙ ap (time_of c.args.time_col) (sym (row_found c.args.rows.now c.loop-i.i c.places.result c.places.ensures.places)))
    ∙ sym (map_more (time_of c.args.time_col) (rows_in c.args.rows.now) c.loop-i.i [] (omega (arith, length_rows c.args.rows.now)))

pub returns : goal.returns
returns g c = record { times = c.loop-i.invariant ∙ ap (map (time_of c.args.time_col)) (take_all c.loop-i.i (rows_in c.args.rows.now) (omega (arith, length_rows c.args.rows.now))) }
