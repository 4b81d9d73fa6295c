use Rattle.std.proofs.Common.{◌∙◌, ◌++◌, ◌∷◌, [], List, ap, ap₂, sym, arith, map, length}
use Rattle.std.proofs.lemmas.List.{map_push, map_more, take_all}
use Rattle.qd_base.specs.declared.cell.Cell.{Cell}
use Rattle.qd_rows.specs.Sets.{rows_in}
use Rattle.qd_value.specs.Scalars.{cell_of}
use Rattle.qd_group.specs.Grouping.{answers_of}
use Rattle.qd_group.proofs.answers.columns_of.Goals as goal

pub loop-agg-preserved : goal.loop-agg-preserved
loop-agg-preserved g c =
    let numbers = c.args.groups.now.numbers.items in
    ap (map (λ c. map cell_of c.items)) c.in_ok-push.ensures.items
    ∙ map_push (λ c. map cell_of c.items) c.loop-agg.columns.items c.in_ok-answers_of_groups.field-0
    ∙ ap₂ (λ (l : List (List Cell)) (x : List Cell). l ++ x ∷ []) c.loop-agg.invariant (c.in_ok-answers_of_groups.ensures.answers ∙ ap (answers_of numbers (length c.args.groups.now.firsts.items) (rows_in c.args.rows.now)) c.agg-item.is)
    ∙ sym (map_more (answers_of numbers (length c.args.groups.now.firsts.items) (rows_in c.args.rows.now)) c.args.aggs.now c.loop-agg.agg-index c.agg-item.result c.loop-agg-test.true)

pub returns : goal.returns
returns g c = record { answers = c.loop-agg.invariant ∙ ap (map (answers_of c.args.groups.now.numbers.items (length c.args.groups.now.firsts.items) (rows_in c.args.rows.now))) (take_all c.loop-agg.agg-index c.args.aggs.now (omega arith)) }
