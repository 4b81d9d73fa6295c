use Rattle.std.proofs.Common.{◌+◌, ◌∙◌, sym, drop}
use Rattle.std.proofs.lemmas.Result.{err_from_is_err_and}
use Rattle.qd_ilp.proofs.Kepts.{grow_span, puts_fits, puts_in}
use Rattle.qd_ilp.proofs.Places.{drop_on}
use Rattle.qd_ilp.proofs.Lines.{item_unnamed, item_unset, item_goes, item_fault, item_is}
use Rattle.qd_ilp.proofs.item.push_item.Goals as goal

pub returns-then-name-clause-item : goal.returns-then-name-clause-item
returns-then-name-clause-item c = item_unnamed c.args.is_tag (drop c.args.at c.args.text.now) c.args.bytes.now.items c.push_name.new.bytes.items c.in_ok-name.name c.in_ok-name.ensures.name c.if-name.true

pub returns-in_err-value-clause-item : goal.returns-in_err-value-clause-item
returns-in_err-value-clause-item c =
    let p = err_from_is_err_and c.from_residual-in_err-value.result c.from_residual-in_err-value.ensures.1 in
    let goes = item_goes c.args.is_tag (drop c.args.at c.args.text.now) c.args.bytes.now.items c.push_name.new.bytes.items (drop c.in_ok-name.end c.args.text.now) (drop (c.in_ok-name.end + 1) c.args.text.now) c.in_ok-name.name c.in_ok-name.ensures.name c.in_ok-name.ensures.rest c.if-name.false
    (sym c.is_at.ensures.begins ∙ c.if-not-is_at.false) (drop_on 1 c.in_ok-name.end c.args.text.now) in
    rw (p.1, p.2) (item_fault c.args.is_tag _ (drop c.args.at c.args.text.now) (drop (c.in_ok-name.end + 1) c.args.text.now) c.in_err-value.field-0.0 goes c.in_err-value.ensures.value)

pub returns-then-not-is_at-clause-item : goal.returns-then-not-is_at-clause-item
returns-then-not-is_at-clause-item c = item_unset c.args.is_tag (drop c.args.at c.args.text.now) (drop c.in_ok-name.end c.args.text.now) c.in_ok-name.ensures.rest (sym c.is_at.ensures.begins ∙ c.if-not-is_at.true)

pub returns-clause-item : goal.returns-clause-item
returns-clause-item c =
    let goes = item_goes c.args.is_tag (drop c.args.at c.args.text.now) c.args.bytes.now.items c.push_name.new.bytes.items (drop c.in_ok-name.end c.args.text.now) (drop (c.in_ok-name.end + 1) c.args.text.now) c.in_ok-name.name c.in_ok-name.ensures.name c.in_ok-name.ensures.rest c.if-name.false
    (sym c.is_at.ensures.begins ∙ c.if-not-is_at.false) (drop_on 1 c.in_ok-name.end c.args.text.now) in
    let fits = puts_fits _ _ _ c.in_ok-name.name c.in_ok-name.ensures.name in
    let name = (grow_span c.push_name.new.bytes.items c.push_value.new.bytes.items c.in_ok-name.name c.in_ok-value.ensures.grows fits).0 ∙ puts_in _ _ _ c.in_ok-name.name c.in_ok-name.ensures.name in
    item_is c.args.is_tag _ _ (drop c.args.at c.args.text.now) (drop (c.in_ok-name.end + 1) c.args.text.now) (drop c.in_ok-value.end c.args.text.now) _ goes c.in_ok-value.ensures.value name
