use Rattle.std.proofs.Common.{arith, refl, ap, ◌∙◌}
use Rattle.qd_score.proofs.Parts.{joins_seat, seen_both}
use Rattle.qd_score.proofs.Sits.{same_sits}
use Rattle.qd_score.proofs.score.Score.join.Goals as goal

pub join_seat-requires : goal.join_seat-requires
join_seat-requires g c = (
  c.requires.seat.sits.of,
  c.requires.other.sits.of,
  c.requires.other.sits.without c.requires.loose.no_lock,
  omega (arith, c.args.self.now.sized.0),
  joins_seat g.B.Booked.book g.B.Booked.sound g.B.Booked.fixed g.B.Booked.blocks _ _ _ _ c.requires.seat.sits.there c.requires.other.sits.there c.requires.loose,
)

pub stand-requires : goal.stand-requires
stand-requires g c = same_sits _ c.args.seat.now _ c.requires.seat.sits c.join_seat.ensures.0 _ c.join_seat.ensures.2 refl c.requires.seat.sits.there

pub returns-clause-seen : goal.returns-clause-seen
returns-clause-seen g c = seen_both g.B.Booked.blocks c.args.seat.now.me.0 c.args.other.me.0 _ c.stand.ensures.seat.stands (c.stand.ensures.same ∙ ap (λ m. m.0) c.join_seat.ensures.2)
