use Rattle.std.proofs.Common.{◌≡◌, take, drop}
use Rattle.qd_base.specs.Lawful.{LawfulFrom}
use Rattle.qd_base.specs.Replay.{replay}
use Rattle.qd_memory.specs.Kept.{database_of, schemas_in}
use Rattle.qd_memory.proofs.parts.ListParts.apply.Given as goal

-- the transactions so far are applied, and the others are lawful behind them
abbrev pub invariant-loop-entry : goal.invariant-loop-entry
invariant-loop-entry l = record {
  after : database_of l.next ≡ replay (database_of l.initial.next) (take l.entry-index l.entries);
  lawful : LawfulFrom (schemas_in l.next) (drop l.entry-index l.entries);
}
