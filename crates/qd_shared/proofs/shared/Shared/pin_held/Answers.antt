use Rattle.std.proofs.Common.{ap, sym, ◌∙◌}
use Rattle.qd_score.specs.Calls.{known_by}
use Rattle.qd_score_model.specs.declared.view.Phase.TheVariants.{Pinned}
use Rattle.qd_score_model.specs.declared.view.Place.{Place}
use Rattle.qd_shared.specs.Passes.{Pass}
use Rattle.qd_shared.specs.Snaps.{pinned_at, with_phase}
use Rattle.qd_shared.proofs.Seated.{along_pinned, begins_pinned, looks, may_pinned, pinned_k}
use Rattle.qd_shared.proofs.shared.Shared.pin_held.Goals as goal

pub returns-clause-holds : goal.returns-clause-holds
returns-clause-holds g c =
    let same = c.give.ensures.seat.sits.of ∙ sym (ap (λ (p : Pass). p.table) c.pass.view_is ∙ c.requires.pass) in
    let k = known_by c.pass.inside.seat in
    let now = known_by c.take-hold.new.seat in
    let then = known_by c.pin_held-pin.new.seat in
    let found = c.take-hold.result.book in
    let place : Place = pinned_at c.pin_held-pin.result in
    looks (with_phase c.args.pass.now (Pinned place)) c.pass.inside.seat.table_id c.give.new.seat.table_id (pinned_k k place) then (known_by c.give.new.seat) (ap (λ (p : Pass). with_phase p (Pinned place)) c.pass.view_is) c.pass.invariant.2 found
    (begins_pinned k found place c.take-hold.ensures.begins) (along_pinned k now then found place c.pin_held-pin.ensures.pinned c.take-hold.ensures.along) same
    (may_pinned k now then found place c.pin_held-pin.ensures.pinned c.take-hold.ensures.may) c.give.ensures.gave c.give.ensures.counted
