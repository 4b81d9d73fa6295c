use Rattle.std.proofs.Common.{None}
use Rattle.qd_ghost.proofs.telling.Telling.forget.Given as goal

abbrev pub ghost-of : goal.ghost-of
ghost-of a = None
