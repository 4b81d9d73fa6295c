use Rattle.std.proofs.Common.{◌+◌, ◌^◌, ◌<◌, ◌∙◌, ℕ, true≢false, List, All, nat_eq, length, take, get_or, sym, ap, subst, arith}
use Rattle.indexmap.specs.IndexMap.{get}
use Rattle.std.proofs.lemmas.List.Elements.{All-push}
use Rattle.qd_manifest.specs.Spelling.{blocks_in, no_part}
use Rattle.qd_catalog.specs.Tracked.{AreListed, new_in}
use Rattle.qd_catalog.proofs.LoopLemmas.{blocks_more, new_in_push, listed_push, small_part, room_at, listed_at}
use Rattle.qd_catalog.proofs.blocks.room_after.Goals as goal

pub loop-part-preserved : goal.loop-part-preserved
loop-part-preserved c =
    let kept = get nat_eq c.args.kept.now in
    let parts = c.args.parts.now in
    let i = c.loop-part.part-index in
    let block = (get_or parts i no_part).block in
    let more = blocks_more parts i no_part c.loop-part-test.true in
    let new = ap (λ (bs : List ℕ). length (new_in kept bs)) more ∙ new_in_push kept (blocks_in (take i parts)) block in
    record {
      room = omega (arith, new, c.in_ok-left.ensures.room);
      listed = subst (λ (bs : List ℕ). AreListed kept bs) (sym more) (listed_push kept (blocks_in (take i parts)) block c.loop-part.invariant.listed c.in_ok-left.ensures.listed);
      small = subst (λ (bs : List ℕ). All (λ b. b + 1 < 2 ^ 64) bs) (sym more) (All-push (λ b. b + 1 < 2 ^ 64) (blocks_in (take i parts)) block c.loop-part.invariant.small c.in_ok-left.ensures.small);
    }

pub returns-in_err-left-clause-enough : goal.returns-in_err-left-clause-enough
returns-in_err-left-clause-enough c = λ few listed small.
    let kept = get nat_eq c.args.kept.now in
    let parts = c.args.parts.now in
    let i = c.loop-part.part-index in
    let most = room_at parts i no_part c.loop-part-test.true kept in
    absurd (true≢false (sym (c.in_err-left.ensures.enough (omega (arith, most, few, c.loop-part.invariant.room)) (listed_at parts i no_part c.loop-part-test.true kept listed) (small_part parts i no_part c.loop-part-test.true small))))
