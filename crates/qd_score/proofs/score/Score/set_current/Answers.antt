use Rattle.std.proofs.Common.{arith, ap, ◌∙◌, ◌<◌}
use Rattle.qd_score_model.specs.Machine.{sees}
use Rattle.qd_score.specs.Rule.{with_view, place_of, place_word}
use Rattle.qd_score.specs.Publishing.{with_current}
use Rattle.qd_score.proofs.Words.{place_of_word}
use Rattle.qd_score.proofs.Sits.{changed_seat}
use Rattle.qd_score.proofs.Lives.{sets_current, held_row}
use Rattle.qd_score.proofs.score.Score.set_current.Goals as goal

pub store-requires : goal.store-requires
store-requires g c = (
  c.requires.seat.sits.of,
  omega (arith, c.args.self.now.sized.0),
  sets_current g.B.Booked.book g.B.Booked.sound g.B.Booked.fixed g.B.Booked.blocks _ _ c.args.seat.now.me c.requires.may.0 (record { n = c.args.n; row = c.args.row }) c.requires.seat.sits.there c.requires.may.1 c.requires.may.2
      (held_row g.B.Booked.blocks c.args.seat.now.me.0.view c.requires.may.0 c.args.row c.requires.may.2.live.0 c.requires.seat.stands c.requires.may.1 c.requires.may.2.live.1),
)

pub returns-clause-seat : goal.returns-clause-seat
returns-clause-seat g c = changed_seat g.B.Booked.blocks _ c.args.seat.now c.store.new.seat (λ h. with_current h (place_of (place_word (record { n = c.args.n; row = c.args.row })))) c.requires.seat c.store.ensures.0 c.store.ensures.2

pub returns-clause-current : goal.returns-clause-current
returns-clause-current g c =
    let lt = held_row g.B.Booked.blocks c.args.seat.now.me.0.view c.requires.may.0 c.args.row c.requires.may.2.live.0 c.requires.seat.stands c.requires.may.1 c.requires.may.2.live.1 in
    let ch = c.store.ensures.2 in (
      ch.hold,
      ch.held,
      ap (λ m. m.0) ch.seat ∙ ap (λ p. with_view c.args.seat.now.me.0 (sees c.args.seat.now.me.0.view (with_current ch.hold p))) (place_of_word (record { n = c.args.n; row = c.args.row }) lt),
    )

pub overflow_add-n : goal.overflow_add-n
overflow_add-n g c =
    let small : c.args.n < 288230376151711744 = c.requires.may.2.small in
    let row : c.args.row < 64 = held_row g.B.Booked.blocks c.args.seat.now.me.0.view c.requires.may.0 c.args.row c.requires.may.2.live.0 c.requires.seat.stands c.requires.may.1 c.requires.may.2.live.1 in omega arith
