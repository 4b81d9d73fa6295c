use Rattle.std.proofs.Common.{◌≡◌, fold, take, drop}
use Rattle.qd_base.specs.Database.{schemas_of}
use Rattle.qd_base.specs.Lawful.{AreLawful}
use Rattle.qd_apply.specs.Arrivals.{arrives}
use Rattle.qd_apply.proofs.tables.Tables.after.Given as goal

-- the changes so far are made, and the others are lawful behind them
abbrev pub invariant-loop-op : goal.invariant-loop-op
invariant-loop-op l = record {
  after : l.tables ≡ fold arrives l.initial.tables (take l.op-index l.ops);
  lawful : AreLawful (schemas_of l.tables) (drop l.op-index l.ops);
}
