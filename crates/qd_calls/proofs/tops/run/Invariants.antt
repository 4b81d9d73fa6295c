use Rattle.std.proofs.Common.{None}
use Rattle.qd_calls.proofs.tops.run.Given as goal

abbrev pub ghost-of : goal.ghost-of
ghost-of g a = None
