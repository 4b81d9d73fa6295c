use Rattle.std.proofs.Common.{refl, inl}
use Rattle.qd_score.specs.Rule.{place_of}
use Rattle.qd_score.proofs.Views.{view_trying}
use Rattle.qd_score.proofs.score.Score.pin.Goals as goal

pub lower-requires-clause-counts : goal.lower-requires-clause-counts
lower-requires-clause-counts g c = (
  place_of c.look-word.result,
  inl (view_trying c.raise.new.seat.me.0 c.confirm-now.new.seat.me.0 c.look-word.result c.confirm-now.result c.confirm-now.ensures.confirmed c.if-now-word.false),
  refl,
)
