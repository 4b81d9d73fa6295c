use Rattle.std.proofs.Common.{◌∙◌, ◌++◌, ◌∷◌, [], ap, ap₂, sym, arith}
use Rattle.std.proofs.lemmas.List.{map_more, take_all}
use Rattle.qd_base.specs.Rows.{Row}
use Rattle.qd_base.specs.declared.cell.Cell.{Cell}
use Rattle.qd_rows.specs.Sets.{rows_in}
use Rattle.qd_meaning.specs.Grouped.{aggregate, aggregates}
use Rattle.qd_group.specs.Tallies.{answer}
use Rattle.qd_group.proofs.TallyLemmas.{tallied_answer}
use Rattle.qd_group.proofs.answers.row_of_all.Goals as goal

pub loop-agg-preserved : goal.loop-agg-preserved
loop-agg-preserved g c =
    let rows = rows_in c.args.rows.now in
    c.in_ok-push.ensures.ok
    ∙ ap₂ (λ (l : Row) (x : Cell). l ++ x ∷ []) c.loop-agg.invariant (c.in_ok-to_cell.ensures.same ∙ c.answer.ensures.answer ∙ ap answer c.in_ok-tally.ensures.tally ∙ tallied_answer c.agg-item.result rows ∙ ap (aggregate rows) c.agg-item.is)
    ∙ sym (map_more (aggregate rows) c.args.aggs.now c.loop-agg.agg-index c.agg-item.result c.loop-agg-test.true)

pub returns : goal.returns
returns g c = c.loop-agg.invariant ∙ ap (λ l. aggregates l (rows_in c.args.rows.now)) (take_all c.loop-agg.agg-index c.args.aggs.now (omega arith))
