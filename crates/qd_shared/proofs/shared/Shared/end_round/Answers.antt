use Rattle.std.proofs.Common.{◌≡◌, ◌∙◌, ◌≤◌, length, ap, sym, subst, arith}
use Rattle.qd_score.specs.Calls.{known_by}
use Rattle.qd_score_model.proofs.Lists.{prefix_length}
use Rattle.qd_shared.specs.Desks.{Desk, items_in}
use Rattle.qd_shared.specs.Passes.{Pass, view_of}
use Rattle.qd_shared.proofs.Applying.{applies, never_crowded, refused_kept}
use Rattle.qd_shared.proofs.Closing.{goes_found}
use Rattle.qd_shared.proofs.Held.{at_table}
use Rattle.qd_shared.proofs.Items.{items_count}
use Rattle.qd_shared.proofs.Merging.{next_here, round_here}
use Rattle.qd_shared.proofs.shared.Shared.end_round.Goals as goal

pub show-hold-requires-clause-few : goal.show-hold-requires-clause-few
show-hold-requires-clause-few g c =
    let found = c.take-hold.result.book in
    let a = c.retire_rows-hold.result.book in
    let k = known_by c.pass.inside.seat in
    let le = prefix_length k.view.seen (items_in found) c.take-hold.ensures.begins.seen in
    let seen : length k.view.seen ≡ length (view_of c.args.pass.now).seen = ap (λ (p : Pass). length (view_of p).seen) c.pass.view_is in
    let same : length (items_in a) ≡ length (items_in found) = ap length c.retire_rows-hold.ensures.items in
    let all = items_count a.owned.store.sequence.refs a.history in
    let within = c.requires.round.within in
    omega (arith, le, seen, same, all, within)

pub show-hold-requires-clause-next : goal.show-hold-requires-clause-next
show-hold-requires-clause-next g c =
    let found = c.take-hold.result.book in
    let k = known_by c.pass.inside.seat in
    let table = c.pass.inside.seat.table_id in
    let p = c.args.pass.now in
    let t = c.take-hold.ensures in
    let r = c.retire_rows-hold.ensures in
    next_here found c.retire_rows-hold.result.book c.args.merged.now c.args.next_block r.shown r.history
    (round_here p table k found c.args.merged.now c.args.next_block c.pass.view_is t.finds (goes_found p table k found c.pass.view_is c.pass.invariant.2 t.begins t.counted) c.requires.round)

pub returns : goal.returns
returns g c =
    let same = c.give.ensures.seat.sits.of ∙ sym (ap (λ (p : Pass). p.table) c.pass.view_is ∙ c.requires.pass) in
    let t = c.take-hold.ensures in
    let r = c.retire_rows-hold.ensures in
    let s = c.show-hold.ensures in
    let both = applies c.args.pass.now c.pass.inside.seat.table_id c.give.new.seat.table_id (known_by c.pass.inside.seat) (known_by c.take-hold.new.seat) (known_by c.retire_rows-hold.new.seat) (known_by c.show-hold.new.seat) (known_by c.give.new.seat)
    c.pass.view_is c.pass.invariant.2 c.take-hold.result.book c.retire_rows-hold.result.book c.show-hold.result.0.book t.begins t.along same r.steps s.steps s.may c.give.ensures.gave c.give.ensures.counted
    0 c.show-hold.result.1 r.items s.items r.history s.history r.shown s.shown s.applied in
    let new = at_table c.give.new.seat.table_id (known_by c.give.new.seat) in
    record {
      passes = both.0;
      answered = both.1;
      alone = λ sole idle.
          let mode = t.along.mode ∙ (ap (λ (p : Pass). (view_of p).mode) c.pass.view_is ∙ sole) in
          let phase = t.along.phase ∙ (ap (λ (p : Pass). (view_of p).phase) c.pass.view_is ∙ idle) in
          never_crowded 0 c.show-hold.result.1 c.args.pass.now new both.1 (refused_kept (known_by c.show-hold.new.seat) (known_by c.give.new.seat) c.show-hold.result.0.book c.give.ensures.gave ∙ (s.refused ∙ (r.alone mode phase ∙ t.fresh)));
    }
