use Rattle.std.proofs.Common.{None}
use Rattle.qd_calls.proofs.faults.outcome_with.Given as goal

abbrev pub ghost-of : goal.ghost-of
ghost-of g a = None
