use Rattle.std.proofs.Common.{◌≡◌, ◌∙◌, ℕ, ◌<◌, ◌≤◌, length, Err, ap, sym, subst, arith}
use Rattle.qd_base.specs.declared.limits.TheConstants.{MAX_TXNS}
use Rattle.qd_catalog.specs.Versions.{Adds}
use Rattle.qd_score.specs.Calls.{known_by}
use Rattle.qd_store_backend.specs.Backs.{current, n_in}
use Rattle.qd_shared.specs.Desks.{Desk, items_in}
use Rattle.qd_shared.specs.Holding.{MayEnd, SeesAll}
use Rattle.qd_shared.proofs.Items.{items_count}
use Rattle.qd_shared.proofs.Showing.{shown_fault}
use Rattle.qd_shared.proofs.Turning.{added_current, current_is, live_is, may_current, may_live, same_end, shown_end, rest_items}
use Rattle.qd_shared.proofs.shared.Shared.show_merged.Goals as goal

pub go_live-hold-requires-clause-may : goal.go_live-hold-requires-clause-may
go_live-hold-requires-clause-may g c =
    let now = known_by c.args.seat.now in
    let from = c.book.result.now in
    let is = c.book.ensures.value in
    let e = c.in-Ok.ensures in
    let upto = c.upto-number.result in
    let eq : upto ≡ c.args.merged.now.upto = c.upto-number.ensures.upto in
    let (shape, added) = e.added in
    let adds = subst (λ (n : ℕ). Adds from.owned.store.versions.versions c.show_merged.new.self.owned.store.versions.versions n shape c.in-Ok.row) (sym eq) added in
    let small : upto ≤ MAX_TXNS = (let s = e.small in omega (arith, eq, s)) in
    let may = subst (λ (d : Desk). MayEnd now d) (sym is) c.requires.may in
    let sees = subst (λ (d : Desk). SeesAll now d) (sym is) c.requires.sees in
    let few : upto ≤ length from.owned.store.sequence.refs = (let f = subst (λ (d : Desk). c.args.merged.now.upto ≤ length d.owned.store.sequence.refs) (sym is) c.requires.few in omega (arith, eq, f)) in
    let more : n_in (current from.owned.store) < upto = (let m = subst (λ (d : Desk). n_in (current d.owned.store) < c.args.merged.now.upto) (sym is) c.requires.more in omega (arith, eq, m)) in
    may_live now from c.show_merged.new.self c.in-Ok.row upto shape adds may sees e.rest e.removed e.present few more small

pub set_current-requires-clause-may : goal.set_current-requires-clause-may
set_current-requires-clause-may g c =
    let now = known_by c.args.seat.now in
    let from = c.book.result.now in
    let is = c.book.ensures.value in
    let e = c.in-Ok.ensures in
    let upto = c.upto-number.result in
    let eq : upto ≡ c.args.merged.now.upto = c.upto-number.ensures.upto in
    let (shape, added) = e.added in
    let adds = subst (λ (n : ℕ). Adds from.owned.store.versions.versions c.show_merged.new.self.owned.store.versions.versions n shape c.in-Ok.row) (sym eq) added in
    let small : upto ≤ MAX_TXNS = (let s = e.small in omega (arith, eq, s)) in
    let may = subst (λ (d : Desk). MayEnd now d) (sym is) c.requires.may in
    let sees = subst (λ (d : Desk). SeesAll now d) (sym is) c.requires.sees in
    let few : upto ≤ length from.owned.store.sequence.refs = (let f = subst (λ (d : Desk). c.args.merged.now.upto ≤ length d.owned.store.sequence.refs) (sym is) c.requires.few in omega (arith, eq, f)) in
    let more : n_in (current from.owned.store) < upto = (let m = subst (λ (d : Desk). n_in (current d.owned.store) < c.args.merged.now.upto) (sym is) c.requires.more in omega (arith, eq, m)) in
    let lit = live_is now from c.show_merged.new.self c.in-Ok.row upto shape adds may sees e.rest e.removed e.present few more small (known_by c.go_live-hold.new.seat) c.go_live-hold.ensures.live in
    may_current now from c.show_merged.new.self c.in-Ok.row upto shape adds may sees e.rest e.removed e.present few more small (known_by c.go_live-hold.new.seat) lit

pub returns-in-Ok-clause-may : goal.returns-in-Ok-clause-may
returns-in-Ok-clause-may g c =
    let now = known_by c.args.seat.now in
    let from = c.book.result.now in
    let is = c.book.ensures.value in
    let e = c.in-Ok.ensures in
    let upto = c.upto-number.result in
    let eq : upto ≡ c.args.merged.now.upto = c.upto-number.ensures.upto in
    let (shape, added) = e.added in
    let adds = subst (λ (n : ℕ). Adds from.owned.store.versions.versions c.show_merged.new.self.owned.store.versions.versions n shape c.in-Ok.row) (sym eq) added in
    let small : upto ≤ MAX_TXNS = (let s = e.small in omega (arith, eq, s)) in
    let may = subst (λ (d : Desk). MayEnd now d) (sym is) c.requires.may in
    let sees = subst (λ (d : Desk). SeesAll now d) (sym is) c.requires.sees in
    let few : upto ≤ length from.owned.store.sequence.refs = (let f = subst (λ (d : Desk). c.args.merged.now.upto ≤ length d.owned.store.sequence.refs) (sym is) c.requires.few in omega (arith, eq, f)) in
    let more : n_in (current from.owned.store) < upto = (let m = subst (λ (d : Desk). n_in (current d.owned.store) < c.args.merged.now.upto) (sym is) c.requires.more in omega (arith, eq, m)) in
    let lit = live_is now from c.show_merged.new.self c.in-Ok.row upto shape adds may sees e.rest e.removed e.present few more small (known_by c.go_live-hold.new.seat) c.go_live-hold.ensures.live in
    let last = current_is now from c.show_merged.new.self c.in-Ok.row upto shape adds may sees e.rest e.removed e.present few more small (known_by c.go_live-hold.new.seat) (known_by c.set_current.new.seat) lit c.set_current.ensures.current in
    subst (λ (d : Desk). MayEnd (known_by c.set_current.new.seat) d) (sym c.go_live-hold.ensures.book)
    (shown_end now from c.show_merged.new.self c.in-Ok.row upto shape adds may sees e.rest e.removed e.present few more small (known_by c.set_current.new.seat) last).0

pub returns-in-Ok-clause-applied : goal.returns-in-Ok-clause-applied
returns-in-Ok-clause-applied g c =
    let now = known_by c.args.seat.now in
    let from = c.book.result.now in
    let is = c.book.ensures.value in
    let e = c.in-Ok.ensures in
    let upto = c.upto-number.result in
    let eq : upto ≡ c.args.merged.now.upto = c.upto-number.ensures.upto in
    let (shape, added) = e.added in
    let adds = subst (λ (n : ℕ). Adds from.owned.store.versions.versions c.show_merged.new.self.owned.store.versions.versions n shape c.in-Ok.row) (sym eq) added in
    let small : upto ≤ MAX_TXNS = (let s = e.small in omega (arith, eq, s)) in
    let may = subst (λ (d : Desk). MayEnd now d) (sym is) c.requires.may in
    let sees = subst (λ (d : Desk). SeesAll now d) (sym is) c.requires.sees in
    let few : upto ≤ length from.owned.store.sequence.refs = (let f = subst (λ (d : Desk). c.args.merged.now.upto ≤ length d.owned.store.sequence.refs) (sym is) c.requires.few in omega (arith, eq, f)) in
    let more : n_in (current from.owned.store) < upto = (let m = subst (λ (d : Desk). n_in (current d.owned.store) < c.args.merged.now.upto) (sym is) c.requires.more in omega (arith, eq, m)) in
    let to = c.go_live-hold.result.book in (
      omega (arith, eq),
      ap (λ (x : Desk). n_in (current x.owned.store)) c.go_live-hold.ensures.book ∙ ap n_in (added_current now from c.show_merged.new.self c.in-Ok.row upto shape adds may sees e.rest e.removed e.present few more small),
      (let count : length (items_in to) ≡ length from.owned.store.sequence.refs = ap (λ (d : Desk). length (items_in d)) c.go_live-hold.ensures.book ∙ (ap length (rest_items from c.show_merged.new.self e.rest) ∙ items_count from.owned.store.sequence.refs from.history) in omega (arith, count, few)),
    )

pub returns-in-Err-clause-may : goal.returns-in-Err-clause-may
returns-in-Err-clause-may g c =
    let now = known_by c.args.seat.now in
    let from = c.book.result.now in
    let e = c.in-Err.ensures in
    let may = subst (λ (d : Desk). MayEnd now d) (sym c.book.ensures.value) c.requires.may in
    let le : from.removed ≤ c.show_merged.new.self.removed = (let r = e.removed in omega (arith, r)) in
    (same_end now from c.show_merged.new.self may e.rest le e.same.versions e.same.current e.present).0

pub returns-in-Err-clause-applied : goal.returns-in-Err-clause-applied
returns-in-Err-clause-applied g c =
    let from = c.book.result.now in
    let e = c.in-Err.ensures in
    shown_fault c.in-Err.fault c.args.merged.now.upto c.args.hold.book from c.show_merged.new.self (known_by c.args.seat.now).view.refused c.book.ensures.value c.requires.thin
    (λ same. e.full (ap (λ f. Err f) same)) (λ file at same. e.whole file at (ap (λ f. Err f) same)) (λ same. e.vol (ap (λ f. Err f) same)) (ap length (sym e.same.versions) ∙ e.present.rows)
