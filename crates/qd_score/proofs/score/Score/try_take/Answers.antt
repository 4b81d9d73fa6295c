use Rattle.std.proofs.Common.{arith}
use Rattle.qd_score.proofs.Locks.{takes_lock}
use Rattle.qd_score.proofs.score.Score.try_take.Goals as goal

pub compare_exchange-found-requires : goal.compare_exchange-found-requires
compare_exchange-found-requires g c = (
  c.requires.seat.sits.of,
  omega (arith, c.args.self.now.sized.0),
  takes_lock g.B.Booked.book g.B.Booked.sound g.B.Booked.fixed g.B.Booked.blocks _ _ c.args.seat.now.me c.requires.seat.sits.there (c.requires.seat.sits.without c.requires.free),
)
