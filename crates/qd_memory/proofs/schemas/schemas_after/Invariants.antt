use Rattle.std.proofs.Common.{◌≡◌, fold, take, drop}
use Rattle.qd_base.specs.Schemas.{schemas_step}
use Rattle.qd_base.specs.Lawful.{AreLawful}
use Rattle.qd_memory.proofs.schemas.schemas_after.Given as goal

-- the changes so far are made, and the others are lawful behind them
abbrev pub invariant-loop-op : goal.invariant-loop-op
invariant-loop-op l = record {
  after : l.after ≡ fold schemas_step l.schemas (take l.op-index l.ops);
  lawful : AreLawful l.after (drop l.op-index l.ops);
}
