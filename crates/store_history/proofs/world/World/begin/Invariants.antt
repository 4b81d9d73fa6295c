use Rattle.std.proofs.Common.{None}
use Rattle.store_history.proofs.world.World.begin.Given as goal

abbrev pub ghost-of : goal.ghost-of
ghost-of a = None
