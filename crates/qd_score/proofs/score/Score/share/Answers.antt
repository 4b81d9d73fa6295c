use Rattle.std.proofs.Common.{arith}
use Rattle.qd_score.proofs.Locks.{shares}
use Rattle.qd_score.proofs.score.Score.share.Goals as goal

pub load-requires : goal.load-requires
load-requires g c = (
  c.requires.seat.sits.of,
  omega (arith, c.args.self.now.sized.0),
  shares g.B.Booked.book g.B.Booked.sound g.B.Booked.fixed g.B.Booked.blocks _ _ c.args.seat.now.me c.requires.seat.sits.there c.requires.sole,
)
