use Rattle.std.proofs.Common.{◌≡◌, List, IfOk, map, subst, sym}
use Rattle.qd_base.specs.Rows.{Row}
use Rattle.qd_meaning.specs.Grouped.{key_of}
use Rattle.qd_rows.specs.Sets.{rows_in}
use Rattle.qd_query.specs.declared.answer.Answer.{Answer}
use Rattle.qd_query.proofs.Whole.{refused_answer, rows_answer}
use Rattle.qd_query.proofs.plans.answer_of_set.Goals as goal

pub returns-then-is_set_too_large : goal.returns-then-is_set_too_large
returns-then-is_set_too_large g c =
    let rows : List Row = map (key_of c.args.exprs.now) (rows_in c.args.rows.now) in
    refused_answer c.args.plan.now rows c.in_ok-places.places c.in_ok-places.ensures.rows c.too_large.result c.too_large.ensures.refused (sym c.if-is_set_too_large.ensures)

pub returns : goal.returns
returns g c =
    let rows : List Row = map (key_of c.args.exprs.now) (rows_in c.args.rows.now) in
    subst (λ (x : Answer). IfOk c.answered.result (λ a. a ≡ x))
    (rows_answer c.args.plan.now rows c.in_ok-places.places c.in_ok-places.ensures.rows c.in_ok-rows_of_set.field-0 c.in_ok-rows_of_set.ensures.rows (sym c.if-is_set_too_large.ensures)) c.answered.ensures
