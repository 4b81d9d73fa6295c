use Rattle.std.proofs.Common.{◌≡◌, All, false, take}
use Rattle.qd_base.specs.Schemas.{sets_keys}
use Rattle.qd_validate.proofs.lawful.sets_no_keys.Given as goal

abbrev pub invariant-loop-op : goal.invariant-loop-op
invariant-loop-op l = All (λ o. sets_keys o ≡ false) (take l.op-index l.ops)
