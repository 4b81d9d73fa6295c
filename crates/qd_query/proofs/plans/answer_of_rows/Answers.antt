use Rattle.std.proofs.Common.{◌≡◌, IfOk, subst, sym}
use Rattle.qd_query.specs.declared.answer.Answer.{Answer}
use Rattle.qd_query.proofs.Whole.{refused_answer, rows_answer}
use Rattle.qd_query.proofs.plans.answer_of_rows.Goals as goal

pub returns-then-are_rows_too_large : goal.returns-then-are_rows_too_large
returns-then-are_rows_too_large c =
    refused_answer c.args.plan.now c.args.rows.now c.in_ok-places.places c.in_ok-places.ensures.rows c.too_large.result c.too_large.ensures.refused (sym c.if-are_rows_too_large.ensures)

pub returns : goal.returns
returns c =
    subst (λ (x : Answer). IfOk c.answered.result (λ a. a ≡ x))
    (rows_answer c.args.plan.now c.args.rows.now c.in_ok-places.places c.in_ok-places.ensures.rows c.in_ok-rows_of_rows.field-0 c.in_ok-rows_of_rows.ensures.rows (sym c.if-are_rows_too_large.ensures)) c.answered.ensures
