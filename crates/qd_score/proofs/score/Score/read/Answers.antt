use Rattle.std.proofs.Common.{arith}
use Rattle.qd_score.proofs.Counts.{reads}
use Rattle.qd_score.proofs.score.Score.read.Goals as goal

pub load-requires : goal.load-requires
load-requires g c = (
  c.requires.seat.sits.of,
  omega (arith, c.args.self.now.sized.0),
  reads g.B.Booked.book g.B.Booked.sound g.B.Booked.fixed g.B.Booked.blocks _ _ c.args.seat.now.me c.requires.held.0 c.requires.held.1,
)
