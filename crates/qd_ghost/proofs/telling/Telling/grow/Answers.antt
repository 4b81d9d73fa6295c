use Rattle.std.proofs.Common.{refl}
use Rattle.qd_ghost.specs.History.{grown}
use Rattle.qd_ghost.proofs.telling.Telling.grow.Goals as goal

pub turn-requires : goal.turn-requires
turn-requires g c = (grown c.args.self.now.history c.requires.0, (c.requires.0, c.requires.1, refl))
