use Rattle.std.proofs.Common.{◌+◌, ◌∙◌, sym, length, drop}
use Rattle.std.proofs.lemmas.Result.{err_from_is_err_and}
use Rattle.qd_ilp.proofs.Places.{drop_on}
use Rattle.qd_ilp.proofs.Lines.{text_fault, text_is, word_none, word_is}
use Rattle.qd_ilp.proofs.item.push_field.Goals as goal

pub returns-in_err-span-clause-value : goal.returns-in_err-span-clause-value
returns-in_err-span-clause-value c =
    let p = err_from_is_err_and c.from_residual.result c.from_residual.ensures.1 in
    rw (p.1, p.2) (text_fault (drop c.args.at c.args.text.now) (drop (c.args.at + 1) c.args.text.now) c.in_err-span.field-0.0 (sym c.is_at.ensures.begins ∙ c.if-is_at.true) (drop_on 1 c.args.at c.args.text.now) c.in_err-span.ensures.fault)

pub returns-then-is_at-clause-value : goal.returns-then-is_at-clause-value
returns-then-is_at-clause-value c =
    let found = c.in_ok-span.ensures.text in
    text_is (drop c.args.at c.args.text.now) (drop (c.args.at + 1) c.args.text.now) c.args.bytes.now.items c.push_text.new.bytes.items found.0 (drop c.in_ok-span.end c.args.text.now) c.in_ok-span.span (sym c.is_at.ensures.begins ∙ c.if-is_at.true)
    (drop_on 1 c.args.at c.args.text.now) found.1 found.2

pub returns-then-is_empty-clause-value : goal.returns-then-is_empty-clause-value
returns-then-is_empty-clause-value c = word_none (drop c.args.at c.args.text.now) _ _ (sym c.is_at.ensures.begins ∙ c.if-is_at.false) c.split_word-end.ensures.word (sym c.is_empty.ensures ∙ c.if-is_empty.true)

pub returns-clause-value : goal.returns-clause-value
returns-clause-value c =
    word_is (drop c.args.at c.args.text.now) _ _ _ (sym c.is_at.ensures.begins ∙ c.if-is_at.false) c.split_word-end.ensures.word (sym c.is_empty.ensures ∙ c.if-is_empty.false) (c.bare.ensures.value c.args.bytes.now.items)

pub returns-clause-fits : goal.returns-clause-fits
returns-clause-fits c = c.bare.ensures.fits (length c.args.bytes.now.items)
