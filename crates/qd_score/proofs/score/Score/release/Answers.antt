use Rattle.std.proofs.Common.{inr, arith}
use Rattle.qd_score.proofs.Counts.{pinned_row}
use Rattle.qd_score.proofs.score.Score.release.Goals as goal

pub lower-requires-clause-counts : goal.lower-requires-clause-counts
lower-requires-clause-counts g c = (record { n = c.args.pin.n; row = c.args.pin.row }, inr c.requires.pin, (let e = c.from.ensures in omega arith))

pub lower-requires-clause-is_row : goal.lower-requires-clause-is_row
lower-requires-clause-is_row g c =
    let below = pinned_row g.B.Booked.blocks c.args.seat.now.me.0.view (record { n = c.args.pin.n; row = c.args.pin.row }) c.requires.seat.stands c.requires.pin in
    let e = c.from.ensures in omega arith
