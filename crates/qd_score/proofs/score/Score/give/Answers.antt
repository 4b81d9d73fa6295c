use Rattle.std.proofs.Common.{arith, ap, ◌∙◌, ◌∷◌, Some}
use Rattle.atomic_table.specs.Table.{rest}
use Rattle.qd_score.proofs.Locks.{gives_lock_at}
use Rattle.qd_score.proofs.score.Score.give.Goals as goal

pub store-requires : goal.store-requires
store-requires g c = (
  c.exchange.ensures.0 ∙ c.requires.seat.sits.of,
  omega (arith, c.args.self.now.sized.0),
  gives_lock_at g.B.Booked.book g.B.Booked.sound g.B.Booked.fixed g.B.Booked.blocks _ _ c.exchange.new.seat.me c.args.seat.now.me.0 c.requires.may.0 c.args.hold.book
      (c.exchange.ensures.3 ∙ ap (λ cs. (c.args.seat.now.me.0, (0, Some c.args.hold.book) ∷ rest cs)) (c.requires.seat.sits.holding c.requires.may.0 c.requires.may.1)) c.requires.seat.sits.there c.requires.may.1 c.requires.may.2 c.requires.comes,
)
