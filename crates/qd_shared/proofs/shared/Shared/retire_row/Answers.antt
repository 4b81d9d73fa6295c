use Rattle.std.proofs.Common.{◌≢◌, ◌∙◌, inl, inr, IsTrue, sym, subst}
use Rattle.qd_catalog.specs.Versions.{IsLive}
use Rattle.qd_score.specs.Calls.{known_by}
use Rattle.qd_shared.specs.Desks.{Desk}
use Rattle.qd_shared.specs.Holding.{MayEnd}
use Rattle.qd_shared.specs.Rounds.{current_row}
use Rattle.qd_shared.proofs.Turning.{may_let_go, refused_end, retired_end, retired_row, retired_within}
use Rattle.qd_shared.proofs.shared.Shared.retire_row.Goals as goal

pub retire-requires-clause-may : goal.retire-requires-clause-may
retire-requires-clause-may g c =
    let yes : IsTrue c.may_retire.result = search in
    let (live, older) = c.may_retire.ensures.may.0 yes in
    may_let_go (known_by c.args.seat.now) c.book.result.now c.args.row (subst (λ (d : Desk). MayEnd (known_by c.args.seat.now) d) (sym c.book.ensures.value) c.requires.may) live older

pub returns-in-Ok-clause-may : goal.returns-in-Ok-clause-may
returns-in-Ok-clause-may g c =
    let yes : IsTrue c.may_retire.result = search in
    let (live, older) = c.may_retire.ensures.may.0 yes in
    let from = c.book-in-Ok.result.now in
    let to = c.retire-in-Ok.new.self in
    let e = c.retire-in-Ok.ensures in
    let here : IsLive from.owned.store.versions.versions c.args.row = subst (λ (d : Desk). IsLive d.owned.store.versions.versions c.args.row) (sym c.book-in-Ok.ensures.value) live in
    let apart : c.args.row ≢ current_row from = subst (λ (d : Desk). c.args.row ≢ current_row d) (sym c.book-in-Ok.ensures.value) older in
    let may = subst (λ (d : Desk). MayEnd (known_by c.args.seat.now) d) (sym (c.book-in-Ok.ensures.value ∙ c.book.ensures.value)) c.requires.may in
    let (h, held, is) = c.in-Ok.ensures.gone in
    (retired_end (known_by c.args.seat.now) from to c.args.row e.retired apart (retired_within from to c.args.row e.retired e.present here) may e.rest e.removed e.present h (known_by c.retire.new.seat) held is).0

pub returns-in-Ok-clause-thin : goal.returns-in-Ok-clause-thin
returns-in-Ok-clause-thin g c =
    let yes : IsTrue c.may_retire.result = search in
    let (live, older) = c.may_retire.ensures.may.0 yes in
    let from = c.book-in-Ok.result.now in
    let to = c.retire-in-Ok.new.self in
    let e = c.retire-in-Ok.ensures in
    let here : IsLive from.owned.store.versions.versions c.args.row = subst (λ (d : Desk). IsLive d.owned.store.versions.versions c.args.row) (sym c.book-in-Ok.ensures.value) live in
    let apart : c.args.row ≢ current_row from = subst (λ (d : Desk). c.args.row ≢ current_row d) (sym c.book-in-Ok.ensures.value) older in
    λ other.
    inl (retired_row (known_by c.args.seat.now) from to c.args.row e.retired apart (retired_within from to c.args.row e.retired e.present here) e.present.rows)

pub returns-in-Err-clause-may : goal.returns-in-Err-clause-may
returns-in-Err-clause-may g c =
    let from = c.book.result.now in
    let may = subst (λ (d : Desk). MayEnd (known_by c.args.seat.now) d) (sym c.book.ensures.value) c.requires.may in
    (refused_end (known_by c.args.seat.now) (known_by c.retire.new.seat) from c.args.row c.in-Err.field-0.word may c.in-Err.ensures.stays c.in-Err.ensures.pinned).0

pub returns-in-Err-clause-thin : goal.returns-in-Err-clause-thin
returns-in-Err-clause-thin g c =
    let from = c.book.result.now in
    let may = subst (λ (d : Desk). MayEnd (known_by c.args.seat.now) d) (sym c.book.ensures.value) c.requires.may in
    λ other. inr (refused_end (known_by c.args.seat.now) (known_by c.retire.new.seat) from c.args.row c.in-Err.field-0.word may c.in-Err.ensures.stays c.in-Err.ensures.pinned).2
