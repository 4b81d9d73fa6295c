use Rattle.std.proofs.Common.{◌≡◌, ◌∙◌, ◌≤◌, ℕ, IfOk, Some, ap, length, subst, sym}
use Rattle.qd_catalog.specs.declared.version.Version as catalog
use Rattle.qd_catalog.specs.Versions as rows
use Rattle.qd_score.specs.Calls.{known_by}
use Rattle.qd_shared.specs.Commits.{IsCounted}
use Rattle.qd_shared.specs.Desks.{Desk}
use Rattle.qd_shared.specs.Holding.{Gives}
use Rattle.qd_shared.specs.Passes.{Pass}
use Rattle.qd_shared.specs.Snaps.{pinned_at, IsCopied}
use Rattle.qd_shared.proofs.Held.{at_table}
use Rattle.qd_shared.proofs.Seated.{live_pinned, looks, noted_here, snap_of_pinned}
use Rattle.qd_shared.proofs.shared.Shared.snap.Goals as goal

pub snap_of-snap-requires : goal.snap_of-snap-requires
snap_of-snap-requires g c =
    let found = c.take-hold.result.book in
    let (y, at, n) = live_pinned c.args.pass.now c.pass.inside.seat.table_id (known_by c.pass.inside.seat) found (pinned_at c.args.pin.now) c.pass.view_is c.take-hold.ensures.finds c.requires.pinned in
    record { live = (y, subst (λ (d : Desk). rows.version_at d.owned.store.versions.versions c.row.result ≡ Some y) (sym c.book.ensures.value) (ap (λ (r : ℕ). rows.version_at found.owned.store.versions.versions r) c.row.ensures ∙ at), n ∙ sym c.n.ensures) }

pub returns-clause-holds : goal.returns-clause-holds
returns-clause-holds g c =
    let same = c.give.ensures.seat.sits.of ∙ sym (ap (λ (p : Pass). p.table) c.pass.view_is ∙ c.requires.pass) in
    looks c.args.pass.now c.pass.inside.seat.table_id c.give.new.seat.table_id (known_by c.pass.inside.seat) (known_by c.take-hold.new.seat) (known_by c.give.new.seat) c.pass.view_is c.pass.invariant.2 c.take-hold.result.book
    c.take-hold.ensures.begins c.take-hold.ensures.along same c.take-hold.ensures.may (subst (λ (d : Desk). Gives (known_by c.take-hold.new.seat) (known_by c.give.new.seat) d) c.book.ensures.value c.give.ensures.gave) (subst IsCounted c.book.ensures.value c.give.ensures.counted)

pub returns-clause-snap : goal.returns-clause-snap
returns-clause-snap g c =
    let same = c.give.ensures.seat.sits.of ∙ sym (ap (λ (p : Pass). p.table) c.pass.view_is ∙ c.requires.pass) in
    let found = c.take-hold.result.book in
    let (y, at, n) = live_pinned c.args.pass.now c.pass.inside.seat.table_id (known_by c.pass.inside.seat) found (pinned_at c.args.pin.now) c.pass.view_is c.take-hold.ensures.finds c.requires.pinned in
    let (noted, seen, told) = noted_here c.args.pass.now c.pass.inside.seat.table_id c.give.new.seat.table_id (known_by c.pass.inside.seat) (known_by c.take-hold.new.seat) (known_by c.give.new.seat) c.pass.view_is c.pass.invariant.2 c.take-hold.result.book
    c.take-hold.ensures.begins c.take-hold.ensures.along same c.take-hold.ensures.may (subst (λ (d : Desk). Gives (known_by c.take-hold.new.seat) (known_by c.give.new.seat) d) c.book.ensures.value c.give.ensures.gave) (subst IsCounted c.book.ensures.value c.give.ensures.counted) in
    snap_of_pinned c.snap_of-snap.result (at_table c.give.new.seat.table_id (known_by c.give.new.seat)) found (pinned_at c.args.pin.now) c.n.result c.row.result y c.n.ensures c.row.ensures at n noted seen told c.snap_of-snap.ensures.number
    (subst (λ (d : Desk). IfOk c.snap_of-snap.result (λ s. c.n.result ≤ length d.owned.store.sequence.refs)) c.book.ensures.value c.snap_of-snap.ensures.within)
    (subst (λ (d : Desk). IfOk c.snap_of-snap.result (λ s. (x : catalog.Version) → rows.version_at d.owned.store.versions.versions c.row.result ≡ Some x → s.shape ≡ x.shape)) c.book.ensures.value c.snap_of-snap.ensures.shape)
    (subst (λ (d : Desk). IfOk c.snap_of-snap.result (λ s. IsCopied s d.history)) c.book.ensures.value c.snap_of-snap.ensures.copied)
