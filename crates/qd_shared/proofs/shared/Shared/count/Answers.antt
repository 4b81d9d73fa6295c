use Rattle.std.proofs.Common.{◌≡◌, ◌∙◌, ap, length, sym, subst}
use Rattle.qd_score.specs.Calls.{known_by}
use Rattle.qd_shared.specs.Commits.{IsCounted}
use Rattle.qd_shared.specs.Desks.{Desk}
use Rattle.qd_shared.specs.Holding.{Gives}
use Rattle.qd_shared.specs.Passes.{Pass}
use Rattle.qd_shared.proofs.Items.{items_count}
use Rattle.qd_shared.proofs.Seated.{looks, noted_here}
use Rattle.qd_shared.proofs.shared.Shared.count.Goals as goal

pub returns : goal.returns
returns g c =
    let same = c.give.ensures.seat.sits.of ∙ sym (ap (λ (p : Pass). p.table) c.pass.view_is ∙ c.requires.pass) in
    let found = c.take-hold.result.book in
    let gave = subst (λ (d : Desk). Gives (known_by c.take-hold.new.seat) (known_by c.give.new.seat) d) c.book.ensures.value c.give.ensures.gave in
    let counted = subst IsCounted c.book.ensures.value c.give.ensures.counted in
    let l = looks c.args.pass.now c.pass.inside.seat.table_id c.give.new.seat.table_id (known_by c.pass.inside.seat) (known_by c.take-hold.new.seat) (known_by c.give.new.seat) c.pass.view_is c.pass.invariant.2 found
    c.take-hold.ensures.begins c.take-hold.ensures.along same c.take-hold.ensures.may gave counted in
    let (noted, seen, told) = noted_here c.args.pass.now c.pass.inside.seat.table_id c.give.new.seat.table_id (known_by c.pass.inside.seat) (known_by c.take-hold.new.seat) (known_by c.give.new.seat) c.pass.view_is c.pass.invariant.2 found
    c.take-hold.ensures.begins c.take-hold.ensures.along same c.take-hold.ensures.may gave counted in
    let there : c.hist_len-count.result ≡ length found.owned.store.sequence.refs = c.hist_len-count.ensures ∙ ap (λ (d : Desk). length d.owned.store.sequence.refs) c.book.ensures.value in
    record {
      looks = l;
      count = there ∙ sym (ap length seen ∙ items_count found.owned.store.sequence.refs found.history);
    }
