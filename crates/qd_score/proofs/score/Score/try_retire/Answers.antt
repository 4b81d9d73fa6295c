use Rattle.std.proofs.Common.{arith, refl, ap}
use Rattle.qd_score.proofs.Lives.{retires, held_row}
use Rattle.qd_score.proofs.Sits.{tried_seat}
use Rattle.qd_score.proofs.score.Score.try_retire.Goals as goal

pub compare_exchange-requires : goal.compare_exchange-requires
compare_exchange-requires g c =
    let lt = held_row g.B.Booked.blocks c.args.seat.now.me.0.view c.requires.may.0 c.args.row c.requires.may.2.live.0 c.requires.seat.stands c.requires.may.1 c.requires.may.2.live.1 in (
      c.requires.seat.sits.of,
      omega (arith, c.args.self.now.sized.0),
      retires g.B.Booked.book g.B.Booked.sound g.B.Booked.fixed g.B.Booked.blocks _ _ c.args.seat.now.me c.requires.may.0 c.args.row c.requires.seat.sits.there c.requires.may.1 c.requires.may.2 lt,
    )

pub returns-clause-seat : goal.returns-clause-seat
returns-clause-seat g c = tried_seat g.B.Booked.blocks _ c.args.seat.now c.compare_exchange.new.seat c.args.row c.compare_exchange.result c.requires.seat c.compare_exchange.ensures.0 (c.compare_exchange.ensures.2 c.args.row refl)

pub returns-clause-gone : goal.returns-clause-gone
returns-clause-gone g c e = let ch = (c.compare_exchange.ensures.2 c.args.row refl).gone e in (ch.hold, ch.held, ap (λ m. m.0) ch.seat)

pub returns-clause-stays : goal.returns-clause-stays
returns-clause-stays g c ne = ap (λ m. m.0) ((c.compare_exchange.ensures.2 c.args.row refl).stays ne)

pub returns-clause-pinned : goal.returns-clause-pinned
returns-clause-pinned g c ne = (c.compare_exchange.ensures.2 c.args.row refl).pinned ne

pub returns-clause-alone : goal.returns-clause-alone
returns-clause-alone g c sole idle = (c.compare_exchange.ensures.2 c.args.row refl).alone sole idle
