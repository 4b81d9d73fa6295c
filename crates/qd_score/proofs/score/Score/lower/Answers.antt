use Rattle.std.proofs.Common.{arith}
use Rattle.qd_score.proofs.Counts.{releases_at}
use Rattle.qd_score.proofs.score.Score.lower.Goals as goal

pub fetch_sub-requires : goal.fetch_sub-requires
fetch_sub-requires g c = (
  c.requires.seat.sits.of,
  (let l = c.requires.is_row in omega (arith, c.args.self.now.sized.0)),
  releases_at g.B.Booked.book g.B.Booked.sound g.B.Booked.fixed g.B.Booked.blocks _ _ c.args.seat.now.me c.requires.counts.0 c.args.row c.requires.counts.2 c.requires.seat.sits.there c.requires.counts.1 c.requires.is_row,
)
