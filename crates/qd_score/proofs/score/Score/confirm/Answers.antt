use Rattle.std.proofs.Common.{arith}
use Rattle.qd_score.specs.Rule.{place_of}
use Rattle.qd_score.proofs.Counts.{confirms}
use Rattle.qd_score.proofs.score.Score.confirm.Goals as goal

pub load-requires : goal.load-requires
load-requires g c = (
  c.requires.seat.sits.of,
  omega (arith, c.args.self.now.sized.0),
  confirms g.B.Booked.book g.B.Booked.sound g.B.Booked.fixed g.B.Booked.blocks _ _ c.args.seat.now.me (place_of c.args.word) c.requires.seat.sits.there c.requires.tries,
)
