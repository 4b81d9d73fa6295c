use Rattle.qd_shared.specs.Rounds.{Passes}
use Rattle.qd_shared.proofs.shared.Shared.make_rounds.Given as goal

abbrev pub invariant-rounds : goal.invariant-rounds
invariant-rounds g l = Passes l.initial.pass l.pass
