use Rattle.std.proofs.Common.{◌≡◌, ◌<◌, ◌≤◌, ◌∙◌, ℕ, List, length, get_or, ap, sym, subst, arith}
use Rattle.std.proofs.lemmas.Bool.{OnFalse_at, OnTrue_at}
use Rattle.qd_memory.specs.declared.slots.Slot.{Slot}
use Rattle.qd_memory.specs.Kept.{IsPlace}
use Rattle.qd_memory.proofs.MergingLemmas.{block_timed, piece_start, time_few}
use Rattle.qd_memory.proofs.PassLemmas.{later_slots}
use Rattle.qd_memory.proofs.SlotLemmas.{starts_rise}
use Rattle.qd_memory.proofs.merging.put_piece.Goals as goal

pub time-requires : goal.time-requires
time-requires c = c.requires.piece.full.some

pub floor_unit-start-requires : goal.floor_unit-start-requires
floor_unit-start-requires c =
    let s = c.args.schema.now in
    let b = c.args.piece.now in
    let full = c.requires.piece.full in
    time_few s b 0 c.time.result (block_timed s b full.whole full.kinds full.time_col) full.fit full.time_col full.some c.time.ensures.time

pub count_before-at-requires : goal.count_before-at-requires
count_before-at-requires c = starts_rise c.args.later.now (later_slots c.args.schema.now c.args.slots.now.items c.args.later.now c.requires.slots).apart

pub put_in-requires-clause-there : goal.put_in-requires-clause-there
put_in-requires-clause-there c = OnTrue_at c.if-starts_at.true c.starts_at.ensures.there

pub put_in-requires-clause-start : goal.put_in-requires-clause-start
put_in-requires-clause-start c = λ d.
    let first = piece_start c.args.schema.now c.args.piece.now c.time.result c.floor_unit-start.result c.requires.piece c.time.ensures.time c.floor_unit-start.ensures.start in
    OnTrue_at c.if-starts_at.true c.starts_at.ensures.same d ∙ first

pub put_in-requires-clause-place : goal.put_in-requires-clause-place
put_in-requires-clause-place c =
    let first = piece_start c.args.schema.now c.args.piece.now c.time.result c.floor_unit-start.result c.requires.piece c.time.ensures.time c.floor_unit-start.ensures.start in
    subst (λ (n : ℕ). IsPlace n c.args.later.now c.count_before-at.result) first c.count_before-at.ensures.place

pub put_new-requires-clause-place : goal.put_new-requires-clause-place
put_new-requires-clause-place c =
    let first = piece_start c.args.schema.now c.args.piece.now c.time.result c.floor_unit-start.result c.requires.piece c.time.ensures.time c.floor_unit-start.ensures.start in
    subst (λ (n : ℕ). IsPlace n c.args.later.now c.count_before-at.result) first c.count_before-at.ensures.place

pub put_new-requires-clause-none : goal.put_new-requires-clause-none
put_new-requires-clause-none c = λ d lt e.
    let first = piece_start c.args.schema.now c.args.piece.now c.time.result c.floor_unit-start.result c.requires.piece c.time.ensures.time c.floor_unit-start.ensures.start in
    OnFalse_at c.if-starts_at.false c.starts_at.ensures.other d lt (e ∙ sym first)
