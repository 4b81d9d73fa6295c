use Rattle.std.proofs.Common.{arith}
use Rattle.qd_score.proofs.Counts.{held_raises}
use Rattle.qd_score.proofs.score.Score.raise_held.Goals as goal

pub fetch_add-requires : goal.fetch_add-requires
fetch_add-requires g c = (
  c.requires.seat.sits.of,
  (let l = c.requires.is_row in omega (arith, c.args.self.now.sized.0)),
  held_raises g.B.Booked.book g.B.Booked.sound g.B.Booked.fixed g.B.Booked.blocks _ _ c.args.seat.now.me c.requires.held.0 c.requires.seat.sits.there c.requires.held.1 c.requires.idle c.requires.kind c.args.row c.requires.held.2 c.requires.is_row,
)
