use Rattle.std.proofs.Common.{arith, refl, ◌∙◌}
use Rattle.qd_score_model.specs.declared.view.Mode.TheVariants.{Writer}
use Rattle.qd_score.proofs.Parts.{splits}
use Rattle.qd_score.proofs.Sits.{same_sits, new_sits}
use Rattle.qd_score.proofs.score.Score.writer_off.Goals as goal

pub split_seat-part-requires : goal.split_seat-part-requires
split_seat-part-requires g c = (
  c.requires.seat.sits.of,
  omega (arith, c.args.self.now.sized.0),
  splits g.B.Booked.book g.B.Booked.sound g.B.Booked.fixed g.B.Booked.blocks _ _ Writer c.requires.seat.sits.there c.requires.may,
)

pub stand-requires : goal.stand-requires
stand-requires g c = same_sits _ c.args.seat.now _ c.requires.seat.sits c.split_seat-part.ensures.0 _ c.split_seat-part.ensures.2 refl c.requires.seat.sits.there

pub stand-requires-2 : goal.stand-requires-2
stand-requires-2 g c = new_sits _ _ c.args.seat.now.me.0 Writer (c.split_seat-part.ensures.3 ∙ c.requires.seat.sits.of) c.split_seat-part.ensures.4
