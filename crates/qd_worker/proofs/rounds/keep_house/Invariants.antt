use Rattle.std.proofs.Common.{◌≡◌}
use Rattle.qd_worker.proofs.rounds.keep_house.Given as goal

abbrev pub invariant-rounds : goal.invariant-rounds
invariant-rounds g l = g.T.Housekeep.fixed l.house ≡ g.T.Housekeep.fixed l.initial.house
