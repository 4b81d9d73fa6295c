-- There is room for each slot, so each push succeeds.
use Rattle.std.proofs.Common.{◌≡◌, ◌∙◌, ◌-◌, arith, rules}
use Rattle.qd_links.proofs.GrowLemmas.{added_none, added_more}
use Rattle.qd_links.proofs.ring.add_slots.Goals as goal

pub loop-slot-init : goal.loop-slot-init
loop-slot-init c = record {
  added = added_none _ _ _ c.in_ok-reserve.ensures.items;
  first_is = search rules;
  len = search rules;
  room = search rules;
}

pub returns-in_err-push-clause-err : goal.returns-in_err-push-clause-err
returns-in_err-push-clause-err c = let full = c.in_err-push.ensures.full in absurd (omega (arith, c.loop-slot.invariant.room))

pub loop-slot-preserved : goal.loop-slot-preserved
loop-slot-preserved c = record {
  added = added_more _ _ _ c.len-first.result c.loop-slot.slot c.loop-slot.auto.slot c.loop-slot.invariant.added c.in_ok-push.ensures.items;
  first_is = c.loop-slot.invariant.first_is;
  len = search rules;
  room = search rules;
}

pub returns-clause-ok : goal.returns-clause-ok
returns-clause-ok c =
    let count : c.loop-slot.slot - c.len-first.result ≡ c.args.count = omega arith in
    let first = c.loop-slot.invariant.first_is in
    c.loop-slot.invariant.added ∙ rw (count, first)
