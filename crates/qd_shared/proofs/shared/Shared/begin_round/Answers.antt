use Rattle.std.proofs.Common.{ap, sym, subst, ◌∙◌, arith}
use Rattle.qd_score.specs.Calls.{known_by}
use Rattle.qd_store_backend.specs.Backs.{n_in}
use Rattle.qd_shared.specs.Desks.{Desk}
use Rattle.qd_shared.specs.Passes.{Pass}
use Rattle.qd_shared.specs.Publishing.{OnlyCalls}
use Rattle.qd_shared.specs.Rounds.{IsBegun}
use Rattle.qd_shared.proofs.Held.{at_table}
use Rattle.qd_shared.proofs.Merging.{calls_end, calls_grows, calls_items, calls_shown}
use Rattle.qd_shared.proofs.Passing.{held_passes}
use Rattle.qd_shared.proofs.Seated.{counted_items, held, told_left}
use Rattle.qd_shared.proofs.shared.Shared.begin_round.Goals as goal

pub give-requires-clause-may : goal.give-requires-clause-may
give-requires-clause-may g c =
    let found = c.take-hold.result.book in
    let left = c.begin_round-begun.new.self in
    let e = c.begin_round-begun.ensures in
    let calls : OnlyCalls found left = subst (λ (d : Desk). OnlyCalls d left) c.book.ensures.value (record { store = e.store; history = e.history; removed = e.removed; faults = e.faults }) in
    calls_end (known_by c.take-hold.new.seat) found left calls c.take-hold.ensures.may

pub returns : goal.returns
returns g c =
    let found = c.take-hold.result.book in
    let left = c.begin_round-begun.new.self in
    let e = c.begin_round-begun.ensures in
    let calls : OnlyCalls found left = subst (λ (d : Desk). OnlyCalls d left) c.book.ensures.value (record { store = e.store; history = e.history; removed = e.removed; faults = e.faults }) in
    let may = calls_end (known_by c.take-hold.new.seat) found left calls c.take-hold.ensures.may in
    let same = c.give.ensures.seat.sits.of ∙ sym (ap (λ (p : Pass). p.table) c.pass.view_is ∙ c.requires.pass) in
    let t = c.take-hold.ensures in
    let k = known_by c.pass.inside.seat in
    let new = at_table c.give.new.seat.table_id (known_by c.give.new.seat) in
    let holds = held c.args.pass.now c.pass.inside.seat.table_id c.give.new.seat.table_id k (known_by c.take-hold.new.seat) (known_by c.give.new.seat) c.pass.view_is c.pass.invariant.2 found t.begins t.along same left (calls_grows found left calls) may c.give.ensures.gave in
    let told = told_left c.args.pass.now c.pass.inside.seat.table_id c.give.new.seat.table_id k (known_by c.take-hold.new.seat) (known_by c.give.new.seat) c.pass.view_is c.pass.invariant.2 found t.begins t.along same left (calls_grows found left calls) may c.give.ensures.gave c.give.ensures.counted in
    record {
      begins = record {
        found = found;
        left = left;
        holds = holds;
        calls = calls;
        history = told ∙ calls.history;
        passes = held_passes c.args.pass.now new found left holds (let s = ap n_in (calls_shown found left calls) in omega (arith, s)) (calls_items found left calls) told (counted_items left c.give.ensures.counted);
        begun = subst (λ (d : Desk). IsBegun c.begin_round-begun.result d left) c.book.ensures.value e.begun;
      };
    }
