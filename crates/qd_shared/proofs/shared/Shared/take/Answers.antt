use Rattle.std.proofs.Common.{sym, subst}
use Rattle.qd_score.specs.Calls.{known_by}
use Rattle.qd_shared.specs.Desks.{Desk}
use Rattle.qd_shared.specs.Holding.{Begins, Finds, MayEnd}
use Rattle.qd_shared.proofs.Held.{begins, finds, may_end}
use Rattle.qd_shared.proofs.shared.Shared.take.Goals as goal

pub returns-clause-begins : goal.returns-clause-begins
returns-clause-begins g c =
    subst (λ (d : Desk). Begins (known_by c.args.seat.now) d) (sym c.book.ensures.value) (begins (known_by c.args.seat.now) (known_by c.take-hold.new.seat) c.take-hold.result.book c.take-hold.ensures.took c.take-hold.ensures.seat.stands c.take-hold.ensures.comes c.take-hold.ensures.whole)

pub returns-clause-finds : goal.returns-clause-finds
returns-clause-finds g c =
    subst (λ (d : Desk). Finds (known_by c.args.seat.now) d) (sym c.book.ensures.value) (finds (known_by c.args.seat.now) (known_by c.take-hold.new.seat) c.take-hold.result.book c.take-hold.ensures.took c.take-hold.ensures.seat.stands)

pub returns-clause-may : goal.returns-clause-may
returns-clause-may g c =
    let may : MayEnd (known_by c.take-hold.new.seat) c.take-hold.result.book = may_end (known_by c.args.seat.now) (known_by c.take-hold.new.seat) c.take-hold.result.book c.take-hold.ensures.took c.take-hold.ensures.finds in
    subst (λ (d : Desk). MayEnd (known_by c.take-hold.new.seat) d) (sym c.book.ensures.value) may
