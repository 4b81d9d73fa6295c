-- Whole answers, whose rows are counted before they are made.
use Rattle.std.proofs.Common.{◌≡◌, ℕ, true, false, ltb, leb, List, [], length, map, get_or, sym, ap, ◌∙◌}
use Rattle.std.proofs.lemmas.Bool.{cond-true, cond-false, le-leb, lt-leb, ltb-true, ltb-false}
use Rattle.qd_base.specs.declared.limits.TheConstants.{MAX_RESULT_BYTES}
use Rattle.qd_base.specs.declared.code.Code.TheVariants as code
use Rattle.qd_base.specs.declared.request.Table.{Table}
use Rattle.qd_base.specs.Codes.{number_of}
use Rattle.qd_base.specs.Rows.{Row}
use Rattle.qd_print.specs.Printed.{csv}
use Rattle.qd_meaning.specs.declared.parts.AskPlan.{AskPlan}
use Rattle.qd_meaning.specs.Answer.{finished}
use Rattle.qd_order.specs.Cuts.{shown_rows}
use Rattle.qd_query.specs.declared.answer.Answer.{Answer}
use Rattle.qd_query.specs.declared.answer.Answer.TheVariants as answer
use Rattle.qd_query.specs.Answers.{sized, table_at}

-- a table that has more bytes than a result may have, or not
pub too_large : (t : Table) → ltb MAX_RESULT_BYTES (length (csv t)) ≡ true → answer.Refused (number_of code.ResultTooLarge) 0 ≡ sized t
too_large t more =
    let high = ltb-true MAX_RESULT_BYTES (length (csv t)) more in
    sym (cond-false (leb (length (csv t)) MAX_RESULT_BYTES) (answer.Rows t) (answer.Refused (number_of code.ResultTooLarge) 0) (lt-leb (length (csv t)) MAX_RESULT_BYTES high))

pub small : (t : Table) → ltb MAX_RESULT_BYTES (length (csv t)) ≡ false → answer.Rows t ≡ sized t
small t less =
    let low = ltb-false MAX_RESULT_BYTES (length (csv t)) less in
    sym (cond-true (leb (length (csv t)) MAX_RESULT_BYTES) (answer.Rows t) (answer.Refused (number_of code.ResultTooLarge) 0) (le-leb (length (csv t)) MAX_RESULT_BYTES low))

-- the rows of a plan at the positions of its answer are its answer
module _ (p : AskPlan) (rows : List Row) (ps : List ℕ) (at : map (λ i. get_or (shown_rows p rows) i []) ps ≡ (finished p rows).rows) where
  abbrev over : List Row → Table
  over made = record { cols = p.out; rows = made }

  pub refused_answer : (a : Answer) → a ≡ answer.Refused (number_of code.ResultTooLarge) 0 → ltb MAX_RESULT_BYTES (length (csv (table_at p rows ps))) ≡ true → a ≡ sized (finished p rows)
  refused_answer a is more = is ∙ too_large (table_at p rows ps) more ∙ ap (λ made. sized (over made)) at

  pub rows_answer : (made : List Row) → made ≡ map (λ i. get_or (shown_rows p rows) i []) ps → ltb MAX_RESULT_BYTES (length (csv (table_at p rows ps))) ≡ false → answer.Rows (over made) ≡ sized (finished p rows)
  rows_answer made is less = ap (λ rs. answer.Rows (over rs)) is ∙ small (table_at p rows ps) less ∙ ap (λ rs. sized (over rs)) at
