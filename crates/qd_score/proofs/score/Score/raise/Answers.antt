use Rattle.std.proofs.Common.{arith}
use Rattle.qd_score.specs.Rule.{place_of}
use Rattle.qd_score.proofs.Counts.{raises}
use Rattle.qd_score.proofs.Words.{row_below}
use Rattle.qd_score.proofs.score.Score.raise.Goals as goal

pub fetch_add-requires : goal.fetch_add-requires
fetch_add-requires g c = (
  c.requires.seat.sits.of,
  (let l = row_below c.args.word in omega (arith, c.args.self.now.sized.0)),
  raises g.B.Booked.book g.B.Booked.sound g.B.Booked.fixed g.B.Booked.blocks _ _ c.args.seat.now.me (place_of c.args.word) c.requires.seat.sits.there c.requires.looked (row_below c.args.word),
)
