use Rattle.std.proofs.Common.{◌≡◌, fold, take, drop}
use Rattle.qd_base.specs.Database.{step}
use Rattle.qd_base.specs.Lawful.{AreLawful}
use Rattle.qd_memory.specs.Kept.{database_of, schemas_in}
use Rattle.qd_memory.proofs.tables.Tables.after.Given as goal

-- the changes so far are made, and the others are lawful behind them
abbrev pub invariant-loop-op : goal.invariant-loop-op
invariant-loop-op l = record {
  after : database_of l.tables ≡ fold step (database_of l.initial.tables) (take l.op-index l.ops);
  lawful : AreLawful (schemas_in l.tables) (drop l.op-index l.ops);
}
