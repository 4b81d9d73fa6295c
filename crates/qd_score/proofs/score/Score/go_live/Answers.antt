use Rattle.std.proofs.Common.{arith, refl, sym, ap, ◌∙◌, ◌∷◌, Some}
use Rattle.atomic_table.specs.Table.{rest}
use Rattle.qd_score.specs.Publishing.{with_live}
use Rattle.qd_score.proofs.Lives.{lives_at, one_book}
use Rattle.qd_score.proofs.Sits.{live_seat, live_known}
use Rattle.qd_score.proofs.score.Score.go_live.Goals as goal

pub fetch_add-requires : goal.fetch_add-requires
fetch_add-requires g c = (
  c.exchange.ensures.0 ∙ c.requires.seat.sits.of,
  (let l = c.requires.may.2.2.is_row in omega (arith, c.args.self.now.sized.0)),
  lives_at g.B.Booked.book g.B.Booked.sound g.B.Booked.fixed g.B.Booked.blocks _ _ c.exchange.new.seat.me c.args.seat.now.me.0 c.requires.may.0 c.args.row c.args.hold.book c.requires.may.2.0
      (c.exchange.ensures.3 ∙ ap (λ cs. (c.args.seat.now.me.0, (0, Some c.args.hold.book) ∷ rest cs)) (c.requires.seat.sits.holding c.requires.may.0 c.requires.may.1)) c.requires.may.2.1 c.requires.seat.sits.there c.requires.may.1 c.requires.may.2.2,
)

pub returns-clause-seat : goal.returns-clause-seat
returns-clause-seat g c =
    let before = c.exchange.ensures.3 ∙ ap (λ cs. (c.args.seat.now.me.0, (0, Some c.args.hold.book) ∷ rest cs)) (c.requires.seat.sits.holding c.requires.may.0 c.requires.may.1) in
    let ch = c.fetch_add.ensures.2 c.args.row c.args.hold.book c.requires.may.2.0 refl (ap (λ m. m.1) before) c.requires.may.2.1 in
    live_seat g.B.Booked.blocks _ c.args.seat.now c.exchange.new.seat c.fetch_add.new.seat c.lift-book.new.seat (λ h. with_live h c.args.row c.requires.may.2.0) c.args.hold.book c.requires.seat before ch c.lift-book.ensures.seat.1 (c.lift-book.ensures.seat.0 ∙ (c.fetch_add.ensures.0 ∙ (c.exchange.ensures.0 ∙ c.requires.seat.sits.of)))

pub returns-clause-live : goal.returns-clause-live
returns-clause-live g c =
    let before = c.exchange.ensures.3 ∙ ap (λ cs. (c.args.seat.now.me.0, (0, Some c.args.hold.book) ∷ rest cs)) (c.requires.seat.sits.holding c.requires.may.0 c.requires.may.1) in
    let ch = c.fetch_add.ensures.2 c.args.row c.args.hold.book c.requires.may.2.0 refl (ap (λ m. m.1) before) c.requires.may.2.1 in (
      ch.hold,
      sym (ap (λ m. m.0.view.hold) before) ∙ ch.held,
      (c.requires.may.2.0, c.requires.may.2.1, live_known g.B.Booked.blocks c.args.seat.now c.exchange.new.seat c.fetch_add.new.seat c.lift-book.new.seat (λ h. with_live h c.args.row c.requires.may.2.0) c.args.hold.book before ch c.lift-book.ensures.seat.1),
    )

pub lift-book-requires-clause-slot : goal.lift-book-requires-clause-slot
lift-book-requires-clause-slot g c =
    let before = c.exchange.ensures.3 ∙ ap (λ cs. (c.args.seat.now.me.0, (0, Some c.args.hold.book) ∷ rest cs)) (c.requires.seat.sits.holding c.requires.may.0 c.requires.may.1) in
    let ch = c.fetch_add.ensures.2 c.args.row c.args.hold.book c.requires.may.2.0 refl (ap (λ m. m.1) before) c.requires.may.2.1 in (c.args.hold.book, ap (λ m. m.1) ch.seat ∙ ap (λ m. m.1) before)

pub returns-clause-book : goal.returns-clause-book
returns-clause-book g c =
    let before = c.exchange.ensures.3 ∙ ap (λ cs. (c.args.seat.now.me.0, (0, Some c.args.hold.book) ∷ rest cs)) (c.requires.seat.sits.holding c.requires.may.0 c.requires.may.1) in
    let ch = c.fetch_add.ensures.2 c.args.row c.args.hold.book c.requires.may.2.0 refl (ap (λ m. m.1) before) c.requires.may.2.1 in
    one_book c.lift-book.result c.args.hold.book c.fetch_add.new.seat.me.1 c.lift-book.ensures.book (ap (λ m. m.1) ch.seat ∙ ap (λ m. m.1) before)
