use Rattle.std.proofs.Common.{None}
use Rattle.qd_calls.proofs.shareds.start_new.Given as goal

abbrev pub ghost-of : goal.ghost-of
ghost-of a = None
