use Rattle.std.proofs.Common.{[]}
use Rattle.std.proofs.lemmas.Result.{err_from_is_err_and}
use Rattle.std.specs.Int.{w16}
use Rattle.qd_fields.specs.Layout.{items, each, number_at}
use Rattle.qd_fields.proofs.Steps.{items_more, items_fail, items_done}
use Rattle.qd_fields.proofs.schema.keys.Goals as goal

pub returns-in_err-key : goal.returns-in_err-key
returns-in_err-key c =
    let p = err_from_is_err_and c.from_residual.result c.from_residual.ensures.1 in
    record { read = rw (p.1, p.2) (items_fail (each (number_at w16)) c.in_err-key.field-0.0 c.args.count c.loop.counter c.loop.keys c.loop.rest.now (items (each (number_at w16)) c.args.count [] c.args.bytes.now) c.loop-test.true c.in_err-key.ensures.read c.loop.invariant) }

pub loop-preserved : goal.loop-preserved
loop-preserved c = rw c.in_ok-push.ensures.ok (items_more (each (number_at w16)) c.args.count c.loop.counter c.loop.keys c.loop.rest.now c.in_ok-key.key c.in_ok-key.after.now (items (each (number_at w16)) c.args.count [] c.args.bytes.now) c.loop-test.true c.in_ok-key.ensures.read c.loop.invariant)

pub returns : goal.returns
returns c = record { read = items_done (each (number_at w16)) c.args.count c.loop.counter c.loop.keys c.loop.rest.now (items (each (number_at w16)) c.args.count [] c.args.bytes.now) c.loop-test.false c.loop.invariant }
