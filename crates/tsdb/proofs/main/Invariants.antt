use Rattle.std.proofs.Common.{None}
use Rattle.tsdb.proofs.main.Given as goal

abbrev pub ghost-of : goal.ghost-of
ghost-of world a = None
