use Rattle.std.proofs.Common.{[]}
use Rattle.std.proofs.lemmas.Result.{err_from_is_err_and}
use Rattle.qd_fields.specs.Layout.{items}
use Rattle.qd_fields.proofs.Steps.{items_more, items_fail, items_done}
use Rattle.qd_wal_entry.specs.Layout.{new_text}
use Rattle.qd_wal_entry.proofs.texts.some_texts.Goals as goal

pub returns-in_err-after : goal.returns-in_err-after
returns-in_err-after c =
    let p = err_from_is_err_and c.from_residual-in_err-after.result c.from_residual-in_err-after.ensures.1 in
    record { read = rw (p.1, p.2) (items_fail new_text c.in_err-after.field-0.0 c.args.count c.loop.counter c.loop.texts c.loop.rest.now (items new_text c.args.count [] c.args.bytes.now) c.loop-test.true c.in_err-after.ensures.read c.loop.invariant) }

pub loop-preserved : goal.loop-preserved
loop-preserved c = rw c.in_ok-after.ensures.joined (items_more new_text c.args.count c.loop.counter c.loop.texts c.loop.rest.now _ _ (items new_text c.args.count [] c.args.bytes.now) c.loop-test.true c.in_ok-after.ensures.read c.loop.invariant)

pub returns : goal.returns
returns c = record { read = items_done new_text c.args.count c.loop.counter c.loop.texts c.loop.rest.now (items new_text c.args.count [] c.args.bytes.now) c.loop-test.false c.loop.invariant }
