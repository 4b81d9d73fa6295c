use Rattle.std.proofs.Common.{◌∙◌, sym, drop, length-drop}
use Rattle.std.proofs.lemmas.Result.{err_from_is_err_and}
use Rattle.qd_ilp.proofs.Rows.{fields_unspaced, fields_fault, fields_untailed, fields_are}
use Rattle.qd_ilp.proofs.row.push_fields.Goals as goal

pub returns-then-not-is_at-clause-fault : goal.returns-then-not-is_at-clause-fault
returns-then-not-is_at-clause-fault c = fields_unspaced (drop c.args.at c.args.text.now) (sym c.is_at.ensures.begins ∙ c.if-not-is_at.true)

pub returns-in_err-end-clause-fault : goal.returns-in_err-end-clause-fault
returns-in_err-end-clause-fault c =
    let p = err_from_is_err_and c.from_residual.result c.from_residual.ensures.1 in
    rw (p.1, p.2)
    (fields_fault (drop c.args.at c.args.text.now) (drop c.after_spaces.result c.args.text.now) _ c.in_err-end.field-0.0 (sym c.is_at.ensures.begins ∙ c.if-not-is_at.false) c.after_spaces.ensures.rest (sym (length-drop c.after_spaces.result c.args.text.now)) c.in_err-end.ensures.fault)

pub returns-in-Some-clause-fields : goal.returns-in-Some-clause-fields
returns-in-Some-clause-fields c =
    let items = c.in_ok-end.ensures.items in (
      items.0,
      fields_are (drop c.args.at c.args.text.now) (drop c.after_spaces.result c.args.text.now) (drop c.in_ok-end.end c.args.text.now) _ _ items.0 _ (sym c.is_at.ensures.begins ∙ c.if-not-is_at.false) c.after_spaces.ensures.rest
          (sym (length-drop c.after_spaces.result c.args.text.now)) items.1 c.in-Some.ensures.tail,
      items.2,
    )

pub returns-in-None-clause-fault : goal.returns-in-None-clause-fault
returns-in-None-clause-fault c =
    let items = c.in_ok-end.ensures.items in
    fields_untailed (drop c.args.at c.args.text.now) (drop c.after_spaces.result c.args.text.now) (drop c.in_ok-end.end c.args.text.now) _ items.0 (sym c.is_at.ensures.begins ∙ c.if-not-is_at.false) c.after_spaces.ensures.rest (sym (length-drop c.after_spaces.result c.args.text.now)) items.1 (sym c.in-None.ensures.tail)
