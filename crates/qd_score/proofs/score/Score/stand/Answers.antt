use Rattle.std.proofs.Common.{arith}
use Rattle.qd_score.proofs.Locks.{learns}
use Rattle.qd_score.proofs.score.Score.stand.Goals as goal

pub load-requires : goal.load-requires
load-requires g c = (
  c.requires.of,
  omega (arith, c.args.self.now.sized.0),
  learns g.B.Booked.book g.B.Booked.sound g.B.Booked.fixed g.B.Booked.blocks _ _ c.args.seat.now.me c.requires.there,
)
