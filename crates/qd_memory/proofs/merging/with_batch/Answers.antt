use Rattle.std.proofs.Common.{◌≡◌, ◌∙◌, ◌+◌, ◌-◌, ◌<◌, ◌≤◌, ◌++◌, ℕ, List, [], length, get_or, take, ap, sym, subst, drop, length-drop, slice_range, arith}
use Rattle.std.specs.List.{AllByRecursion}
use Rattle.qd_base.specs.Rows.{Row}
use Rattle.qd_block.specs.Blocks.{Block}
use Rattle.qd_memory.specs.declared.slots.Slot.{Slot}
use Rattle.qd_memory.specs.Kept.{partition_of, AreSlots, HasPut}
use Rattle.qd_memory.proofs.PassLemmas.{none_passed, pass_done, pass_on, piece_first, rest_all, starts_before, StartBefore}
use Rattle.qd_memory.proofs.PieceLemmas.{piece_is}
use Rattle.qd_memory.proofs.merging.with_batch.Goals as goal

pub loop-from-init : goal.loop-from-init
loop-from-init c = record {
  within = omega arith;
  passed = omega arith;
  put = none_passed c.args.schema.now c.args.old.now c.in_ok-slots.slots.items c.args.batch.now.rows c.requires.slots c.in_ok-slots.ensures.items;
  before = λ lt. subst (StartBefore c.args.schema.now c.args.batch.now.rows 0) (sym c.in_ok-slots.ensures.items) tt;
}

pub piece_end-to-requires-clause-there : goal.piece_end-to-requires-clause-there
piece_end-to-requires-clause-there c = omega (arith, c.rows.ensures.count, c.loop-from-test.true)

pub put_piece-requires-clause-slots : goal.put_piece-requires-clause-slots
put_piece-requires-clause-slots c = subst (λ (l : List Slot). AreSlots c.args.schema.now (c.loop-from.slots.items ++ l)) (sym (rest_all c.loop-from.passed c.args.old.now)) c.loop-from.invariant.put.slots

pub put_piece-requires-clause-piece : goal.put_piece-requires-clause-piece
put_piece-requires-clause-piece c =
    let e = c.piece_end-to.ensures in
    piece_is c.args.schema.now c.args.batch.now c.in_ok-piece.piece c.loop-from.from c.piece_end-to.result c.requires.batch c.in_ok-piece.ensures.rows c.is_whole.ensures.whole e.some e.within e.together

pub put_piece-requires-clause-before : goal.put_piece-requires-clause-before
put_piece-requires-clause-before c =
    subst (λ (r : Row). AllByRecursion (λ (x : Slot). x.start < partition_of c.args.schema.now r) c.loop-from.slots.items)
    (sym (piece_first c.args.batch.now c.in_ok-piece.piece c.loop-from.from c.piece_end-to.result c.in_ok-piece.ensures.rows c.piece_end-to.ensures.some))
    (c.loop-from.invariant.before (omega (arith, c.rows.ensures.count, c.loop-from-test.true)))

pub loop-from-preserved : goal.loop-from-preserved
loop-from-preserved c =
    let e = c.piece_end-to.ensures in
    let s = c.args.schema.now in
    let b = c.args.batch.now in
    let done = c.put_piece.new.slots.items in
    let later = take (length c.args.old.now - c.loop-from.passed) (drop c.loop-from.passed c.args.old.now) in
    let n = c.in_ok-passed.field-0 in
    let first = piece_first b c.in_ok-piece.piece c.loop-from.from c.piece_end-to.result c.in_ok-piece.ensures.rows e.some in
    record {
      within = e.within;
      passed = omega (arith, c.loop-from.invariant.passed, c.in_ok-passed.ensures.within, ap length (rest_all c.loop-from.passed c.args.old.now), length-drop c.loop-from.passed c.args.old.now);
      put = pass_on s c.args.old.now c.loop-from.slots.items done (take (length c.args.old.now - c.loop-from.passed) (drop c.loop-from.passed c.args.old.now)) b.rows c.loop-from.passed n c.loop-from.from c.piece_end-to.result (omega (arith, e.some)) (rest_all c.loop-from.passed c.args.old.now) c.loop-from.invariant.put
          (subst (λ (x : Block). HasPut s (c.loop-from.slots.items ++ later) x.rows (done ++ drop n later)) c.in_ok-piece.ensures.rows c.in_ok-passed.ensures.put);
      before = λ lt. starts_before s b.rows (partition_of s (get_or b.rows c.loop-from.from [])) (partition_of s (get_or b.rows c.piece_end-to.result [])) done (e.apart lt)
          (subst (λ (r : Row). AllByRecursion (λ (x : Slot). x.start ≤ partition_of s r) done) first c.in_ok-passed.ensures.last);
    }

pub returns : goal.returns
returns c = record {
  put = pass_done c.args.schema.now c.args.old.now c.loop-from.slots.items c.share_slots.new.copies.items _ c.args.batch.now.rows c.loop-from.passed c.loop-from.from (omega (arith, c.rows.ensures.count, c.loop-from-test.false)) (rest_all c.loop-from.passed c.args.old.now) c.in_ok-share_slots.ensures.more c.loop-from.invariant.put;
}
