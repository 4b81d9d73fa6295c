use Rattle.std.proofs.Common.{rules}
use Rattle.qd_score.proofs.Bare.{third_bare}
use Rattle.qd_score.proofs.tests.retires.Goals as goal

pub gives-requires-clause-bare : goal.gives-requires-clause-bare
gives-requires-clause-bare g c = third_bare _ (search rules)
