use Rattle.std.proofs.Common.{◌≡◌, ◌≤◌, IsTrue, length, sym, subst, arith}
use Rattle.qd_score.specs.Calls.{known_by}
use Rattle.qd_shared.specs.Desks.{Desk, items_in}
use Rattle.qd_shared.specs.Holding.{MayEnd}
use Rattle.qd_shared.specs.Publishing.{IsNext, IsNextAt}
use Rattle.qd_shared.specs.Rounds.{IsApplied}
use Rattle.qd_shared.proofs.Applying.{applied_less}
use Rattle.qd_shared.proofs.Items.{items_count}
use Rattle.qd_shared.proofs.Merging.{next_now}
use Rattle.qd_shared.proofs.shared.Shared.show.Goals as goal

pub show_merged-requires-clause-next : goal.show_merged-requires-clause-next
show_merged-requires-clause-next g c =
    let d = c.book.result.now in
    let yes : IsTrue c.fits.result = search in
    next_now d c.args.merged.now c.args.next_block (subst (λ (x : Desk). IsNextAt x c.args.merged.now c.args.next_block) (sym c.book.ensures.value) c.requires.next) (c.fits.ensures.fits yes)

pub returns-clause-applied : goal.returns-clause-applied
returns-clause-applied g c =
    let d = c.book-2.result.now in
    let all = items_count d.owned.store.sequence.refs d.history in
    let w = c.shown_n-n.ensures.within in (omega arith, sym c.shown_n-n.ensures.shown, omega (arith, w, all))
