use Rattle.std.proofs.Common.{IfSome, ap, sym, subst, ◌∙◌}
use Rattle.qd_score.specs.Calls.{known_by}
use Rattle.qd_durable.specs.Faults.{CountsVol}
use Rattle.qd_store.specs.Reading.{IsShownPart}
use Rattle.qd_versions.specs.Reading.{IsPartAt}
use Rattle.qd_shared.specs.Desks.{Desk}
use Rattle.qd_shared.specs.Passes.{Pass}
use Rattle.qd_shared.specs.Snaps.{pinned_at}
use Rattle.qd_shared.proofs.Seated.{held, live_pinned, noted_pinned, part_pinned, read_end, read_grows, reads, told_left}
use Rattle.qd_shared.proofs.shared.Shared.read_part.Goals as goal

pub read_part-block-requires : goal.read_part-block-requires
read_part-block-requires g c =
    let found = c.take-hold.result.book in
    let place = pinned_at c.args.pin.now in
    let k = known_by c.pass.inside.seat in
    let (y, at, n) = live_pinned c.args.pass.now c.pass.inside.seat.table_id k found place c.pass.view_is c.take-hold.ensures.finds c.requires.pinned in
    let same = noted_pinned c.args.pass.now c.pass.inside.seat.table_id k found place c.args._snap.now.shape y c.pass.view_is c.take-hold.ensures.finds c.requires.noted at n in
    let (t, p, has) = c.requires.there in
    record { there = (t, p, subst (λ (d : Desk). IsPartAt d.owned.store.versions.versions c.row.result c.args.table c.args.i t p) (sym c.book.ensures.value) (part_pinned found place c.row.result c.args.table c.args.i c.args._snap.now.shape y c.row.ensures at same t p has)) }

pub give-requires-clause-may : goal.give-requires-clause-may
give-requires-clause-may g c =
    let e = c.read_part-block.ensures in
    let v = c.book.ensures.value in
    let store = e.store ∙ ap (λ (d : Desk). d.owned.store) v in
    let history = e.history ∙ ap (λ (d : Desk). d.history) v in
    let removed = e.removed ∙ ap (λ (d : Desk). d.removed) v in
    let counted = subst (λ (d : Desk). CountsVol d.owned.storage.faults c.read_part-block.new.self.owned.storage.faults c.read_part-block.result) v e.counted in
    read_end c.take-hold.result.book c.read_part-block.new.self c.read_part-block.result store history counted (known_by c.take-hold.new.seat) removed c.take-hold.ensures.may

pub returns-clause-reads : goal.returns-clause-reads
returns-clause-reads g c =
    let same = c.give.ensures.seat.sits.of ∙ sym (ap (λ (p : Pass). p.table) c.pass.view_is ∙ c.requires.pass) in
    let found = c.take-hold.result.book in
    let left = c.read_part-block.new.self in
    let place = pinned_at c.args.pin.now in
    let k = known_by c.pass.inside.seat in
    let now = known_by c.take-hold.new.seat in
    let then = known_by c.give.new.seat in
    let e = c.read_part-block.ensures in
    let v = c.book.ensures.value in
    let store = e.store ∙ ap (λ (d : Desk). d.owned.store) v in
    let history = e.history ∙ ap (λ (d : Desk). d.history) v in
    let removed = e.removed ∙ ap (λ (d : Desk). d.removed) v in
    let counted = subst (λ (d : Desk). CountsVol d.owned.storage.faults c.read_part-block.new.self.owned.storage.faults c.read_part-block.result) v e.counted in
    let (y, at, n) = live_pinned c.args.pass.now c.pass.inside.seat.table_id k found place c.pass.view_is c.take-hold.ensures.finds c.requires.pinned in
    let shape = noted_pinned c.args.pass.now c.pass.inside.seat.table_id k found place c.args._snap.now.shape y c.pass.view_is c.take-hold.ensures.finds c.requires.noted at n in
    let grows = read_grows found left c.read_part-block.result store history counted in
    let may = read_end found left c.read_part-block.result store history counted now removed c.take-hold.ensures.may in
    let holds = held c.args.pass.now c.pass.inside.seat.table_id c.give.new.seat.table_id k now then c.pass.view_is c.pass.invariant.2 found c.take-hold.ensures.begins c.take-hold.ensures.along same left grows may c.give.ensures.gave in
    let told = told_left c.args.pass.now c.pass.inside.seat.table_id c.give.new.seat.table_id k now then c.pass.view_is c.pass.invariant.2 found c.take-hold.ensures.begins c.take-hold.ensures.along same left grows may c.give.ensures.gave c.give.ensures.counted in
    reads c.args.pass.now c.give.new.seat.table_id then found left c.read_part-block.result place c.args._snap.now.shape c.row.result c.args.table c.args.i y c.row.ensures at n shape store history counted holds told c.give.ensures.counted
    (λ t p part. e.block t p (subst (λ (d : Desk). IsPartAt d.owned.store.versions.versions c.row.result c.args.table c.args.i t p) (sym v) part))
    (subst (λ (d : Desk). IfSome d.history (λ h. IsShownPart c.read_part-block.result d.owned.store h c.row.result c.args.table c.args.i)) v e.shown)
