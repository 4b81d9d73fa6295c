use Rattle.std.proofs.Common.{◌≡◌, [], List, ℕ, Ok, subst}
use Rattle.std.proofs.lemmas.Result.{err_from_is_err_and}
use Rattle.qd_fields.specs.Layout.{items}
use Rattle.qd_fields.specs.Reading.{Fails}
use Rattle.qd_manifest.specs.Layout.{key_from}
use Rattle.qd_fields.proofs.Steps.{items_more, items_fail, items_done}
use Rattle.qd_manifest.proofs.schema.keys.Goals as goal

pub returns-in_err-key : goal.returns-in_err-key
returns-in_err-key c =
    let p = err_from_is_err_and c.from_residual.result c.from_residual.ensures.1 in
    record { read = rw (p.1, p.2) (items_fail (key_from c.args.columns c.args.time c.args.count) c.in_err-key.field-0.0 c.args.count c.loop.counter c.loop.keys c.loop.rest.now (items (key_from c.args.columns c.args.time c.args.count) c.args.count [] c.args.bytes.now) c.loop-test.true (subst (λ (l : List ℕ). Fails c.in_err-key.field-0.0 (key_from c.args.columns c.args.time c.args.count l c.loop.rest.now)) c.as_slice.ensures.items c.in_err-key.ensures.read) c.loop.invariant) }

pub loop-preserved : goal.loop-preserved
loop-preserved c = rw c.in_ok-push.ensures.ok (items_more (key_from c.args.columns c.args.time c.args.count) c.args.count c.loop.counter c.loop.keys c.loop.rest.now c.in_ok-key.key c.in_ok-key.after.now (items (key_from c.args.columns c.args.time c.args.count) c.args.count [] c.args.bytes.now) c.loop-test.true (subst (λ (l : List ℕ). key_from c.args.columns c.args.time c.args.count l c.loop.rest.now ≡ Ok (c.in_ok-key.key, c.in_ok-key.after.now)) c.as_slice.ensures.items c.in_ok-key.ensures.read) c.loop.invariant)

pub returns : goal.returns
returns c = record { read = items_done (key_from c.args.columns c.args.time c.args.count) c.args.count c.loop.counter c.loop.keys c.loop.rest.now (items (key_from c.args.columns c.args.time c.args.count) c.args.count [] c.args.bytes.now) c.loop-test.false c.loop.invariant }
