use Rattle.std.proofs.Common.{◌≡◌, ◌<◌, ◌∙◌, ◌++◌, ◌∷◌, [], List, Option, ℕ, None, ap, ap₂, sym, arith, length, map, get_or}
use Rattle.std.specs.List.{range_with_len}
use Rattle.std.proofs.lemmas.List.FromFn.{map-range_with_len_more}
use Rattle.qd_asof.specs.Choices.{choice}
use Rattle.qd_asof.proofs.ChoiceLemmas.{passed_more, taken_here}
use Rattle.qd_asof.proofs.choices.taken_rows.Goals as goal

pub loop-i-preserved : goal.loop-i-preserved
loop-i-preserved c =
    let taken = choice c.args.strict c.args.left_numbers.now c.args.left_times.now c.args.right_numbers.now c.args.right_times.now in
    let here : c.loop-i.i < length c.args.left_times.now = omega arith in
    let low : get_or c.args.left_numbers.now c.loop-i.i 0 < length c.pass_early-next.new.last.items =
    (let h = c.requires.left_below c.loop-i.i 0 (omega arith) in omega (arith, h, c.pass_early-next.ensures.size, c.loop-i.invariant.size)) in
    record {
      size = c.pass_early-next.ensures.size ∙ c.loop-i.invariant.size;
      passed = passed_more c.args.strict c.args.left_numbers.now c.args.left_times.now c.args.right_numbers.now c.args.right_times.now c.requires.left_order c.requires.right_order c.loop-i.i c.loop-i.next c.pass_early-next.result c.loop-i.last.items
          c.pass_early-next.new.last.items here c.loop-i.invariant.passed c.pass_early-next.ensures.more c.pass_early-next.ensures.within c.pass_early-next.ensures.known c.pass_early-next.ensures.passed c.pass_early-next.ensures.stops;
      taken =
          c.in_ok-push.ensures.items
          ∙ ap₂ (λ (l : List (Option ℕ)) (o : Option ℕ). l ++ o ∷ []) c.loop-i.invariant.taken
          (c.index.ensures
          ∙ taken_here c.args.strict c.args.left_numbers.now c.args.left_times.now c.args.right_numbers.now c.args.right_times.now c.requires.left_order c.requires.right_order c.loop-i.i c.loop-i.next c.pass_early-next.result c.loop-i.last.items
          c.pass_early-next.new.last.items here c.loop-i.invariant.passed c.pass_early-next.ensures.more c.pass_early-next.ensures.within c.pass_early-next.ensures.known c.pass_early-next.ensures.passed c.pass_early-next.ensures.stops
          c.index.result.now low)
          ∙ sym (map-range_with_len_more taken 0 c.loop-i.i c.loop-i.i (omega arith));
    }
