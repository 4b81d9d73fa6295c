use Rattle.std.proofs.Common.{◌≡◌, drop, fold, take}
use Rattle.qd_base.specs.Schemas.{schemas_step}
use Rattle.qd_base.specs.Lawful.{AreLawful}
use Rattle.qd_validate.proofs.lawful.follow_each.Given as goal

abbrev pub invariant-loop-op : goal.invariant-loop-op
invariant-loop-op l = record {
  behind : l.schemas ≡ fold schemas_step l.initial.schemas (take l.op-index l.ops);
  before : AreLawful l.schemas (drop l.op-index l.ops) → AreLawful l.initial.schemas l.ops;
  after : AreLawful l.initial.schemas l.ops → AreLawful l.schemas (drop l.op-index l.ops);
}
