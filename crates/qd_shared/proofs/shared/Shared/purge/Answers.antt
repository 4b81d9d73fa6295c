use Rattle.std.proofs.Common.{◌≡◌, ◌∙◌, ◌≤◌, ap, sym, subst}
use Rattle.qd_score.specs.Calls.{known_by}
use Rattle.qd_shared.specs.Desks.{Desk}
use Rattle.qd_shared.specs.Passes.{Pass}
use Rattle.qd_shared.specs.Publishing.{IsRest}
use Rattle.qd_shared.specs.Rounds.{IsPurged, Removes, current_row}
use Rattle.qd_shared.proofs.Purging.{purges}
use Rattle.qd_shared.proofs.Turning.{same_end}
use Rattle.qd_shared.proofs.shared.Shared.purge.Goals as goal

pub give-requires-clause-may : goal.give-requires-clause-may
give-requires-clause-may g c =
    let a = c.retire_rows-hold.result.book in
    let to = c.sweep_all-done.new.self in
    let e = c.sweep_all-done.ensures in
    let now = known_by c.retire_rows-hold.new.seat in
    let is = c.book.ensures.value in
    let rest : IsRest a to = subst (λ (d : Desk). IsRest d to) is e.rest in
    let list : to.owned.store.versions.versions.versions ≡ a.owned.store.versions.versions.versions = e.versions ∙ ap (λ (d : Desk). d.owned.store.versions.versions.versions) is in
    let row : current_row to ≡ current_row a = e.current ∙ ap current_row is in
    let rise : a.removed ≤ to.removed = subst (λ (d : Desk). d.removed ≤ to.removed) is e.rise in
    let ends = same_end now a to c.retire_rows-hold.ensures.may rest rise list row e.present in
    ends.0

pub returns : goal.returns
returns g c =
    let a = c.retire_rows-hold.result.book in
    let to = c.sweep_all-done.new.self in
    let e = c.sweep_all-done.ensures in
    let now = known_by c.retire_rows-hold.new.seat in
    let is = c.book.ensures.value in
    let rest : IsRest a to = subst (λ (d : Desk). IsRest d to) is e.rest in
    let list : to.owned.store.versions.versions.versions ≡ a.owned.store.versions.versions.versions = e.versions ∙ ap (λ (d : Desk). d.owned.store.versions.versions.versions) is in
    let row : current_row to ≡ current_row a = e.current ∙ ap current_row is in
    let rise : a.removed ≤ to.removed = subst (λ (d : Desk). d.removed ≤ to.removed) is e.rise in
    let ends = same_end now a to c.retire_rows-hold.ensures.may rest rise list row e.present in
    let same = c.give.ensures.seat.sits.of ∙ sym (ap (λ (p : Pass). p.table) c.pass.view_is ∙ c.requires.pass) in
    let t = c.take-hold.ensures in
    let r = c.retire_rows-hold.ensures in
    record {
      purges = purges c.args.pass.now c.pass.inside.seat.table_id c.give.new.seat.table_id (known_by c.pass.inside.seat) (known_by c.take-hold.new.seat) now (known_by c.give.new.seat) c.pass.view_is c.pass.invariant.2 c.take-hold.result.book a to
          t.begins t.along same r.steps ends.1 ends.0 c.give.ensures.gave c.give.ensures.counted c.sweep_all-done.result r.items r.shown r.removed r.thin rest list row
          (subst (λ (d : Desk). Removes d to) is e.removes) (subst (λ (d : Desk). IsPurged c.sweep_all-done.result d to) is e.purged);
    }
