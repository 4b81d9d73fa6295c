use Rattle.std.proofs.Common.{rules}
use Rattle.qd_score.proofs.Bare.{second_bare}
use Rattle.qd_score.proofs.tests.publishes.Goals as goal

pub gives-requires-clause-bare : goal.gives-requires-clause-bare
gives-requires-clause-bare g c = second_bare _ (search rules)
