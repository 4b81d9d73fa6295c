use Rattle.std.proofs.Common.{◌≡◌, false, sym, ◌∙◌, ap, true≢false}
use Rattle.std.proofs.lemmas.List.Elements.{All-get_or, All-from_recursion, recursion_from_All}
use Rattle.qd_base.specs.declared.op.Op.{Op}
use Rattle.qd_base.specs.Schemas.{sets_keys}
use Rattle.qd_base.proofs.Taken.{All-taken, All-whole, fails, holds}
use Rattle.qd_validate.proofs.lawful.sets_no_keys.Goals as goal

pub returns-then-sets_keys : goal.returns-then-sets_keys
returns-then-sets_keys c = record {
  none = fails (λ h.
      let at = All-get_or (λ (o : Op). sets_keys o ≡ false) c.args.ops.now c.loop-op.op-index c.op-item.result c.loop-op-test.true (All-from_recursion (λ (o : Op). sets_keys o ≡ false) c.args.ops.now h) in
      true≢false (sym c.if-sets_keys.true ∙ c.sets_keys.ensures.keys ∙ ap sets_keys c.op-item.is ∙ at));
}

pub loop-op-preserved : goal.loop-op-preserved
loop-op-preserved c = All-taken (λ (o : Op). sets_keys o ≡ false) c.args.ops.now c.loop-op.op-index c.op-item.result c.loop-op-test.true c.op-item.is c.loop-op.invariant (sym c.sets_keys.ensures.keys ∙ c.if-sets_keys.false)

pub returns : goal.returns
returns c = record { none = holds (recursion_from_All (λ (o : Op). sets_keys o ≡ false) c.args.ops.now (All-whole (λ (o : Op). sets_keys o ≡ false) c.args.ops.now c.loop-op.op-index c.loop-op-test.false c.loop-op.invariant)) }
