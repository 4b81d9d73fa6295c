use Rattle.std.proofs.Common.{◌≡◌, ◌∙◌, ◌++◌, ◌<◌, ℕ, List, Bool, ap, drop, get_or, length, arith, inl, inr}
use Rattle.std.proofs.lemmas.Bool.{cases_lt}
use Rattle.qd_merge.specs.Outdated.{outdated}
use Rattle.qd_merge.proofs.Lent.{lent_times}
use Rattle.qd_merge.proofs.Outdating.{outdated_next, all_outdated}
use Rattle.qd_merge.proofs.dedup.outdated.Goals as goal

pub loop-place-init : goal.loop-place-init
loop-place-init c = ap (λ (g : List Bool). g ++ outdated c.args.keys.now c.args.block.now.rows) c.in_ok-gone.ensures.items

pub push_outdated-requires-clause-within : goal.push_outdated-requires-clause-within
push_outdated-requires-clause-within c =
    let lent = lent_times c.args.block.now c.times-times.result.now c.is_whole.ensures.whole c.times-times.ensures.times in
    omega (arith, lent.size, c.first_later-end.ensures.within)

pub loop-place-smaller : goal.loop-place-smaller
loop-place-smaller c =
    let lent = lent_times c.args.block.now c.times-times.result.now c.is_whole.ensures.whole c.times-times.ensures.times in
    let size = lent.size in
    let here : c.loop-place.place < length c.times-times.result.now = c.loop-place-test.true in
    let low = c.first_later-end.ensures.from in
    elim (cases_lt c.loop-place.place c.first_later-end.result) [
      | inl less ↦ omega arith
      | inr same ↦
          (let at : c.first_later-end.result ≡ c.loop-place.place = omega arith in
          let later = c.first_later-end.ensures.later (omega arith) in
          let one = ap (λ n. get_or c.times-times.result.now n 0) at in
          absurd (omega arith))
    ]

pub loop-place-preserved : goal.loop-place-preserved
loop-place-preserved c =
    let block = c.args.block.now in
    let lent = lent_times block c.times-times.result.now c.is_whole.ensures.whole c.times-times.ensures.times in
    ap (λ (g : List Bool). g ++ outdated c.args.keys.now (drop c.first_later-end.result block.rows)) c.in_ok-push_outdated.ensures.added
    ∙ outdated_next block.time_col c.args.keys.now block.rows c.times-times.result.now c.loop-place.place c.first_later-end.result c.loop-place.gone.items c.requires.keys lent.same lent.rise c.first_later-end.ensures.from c.first_later-end.ensures.within c.first_later-end.ensures.upto c.first_later-end.ensures.later
    ∙ c.loop-place.invariant

pub returns : goal.returns
returns c =
    let lent = lent_times c.args.block.now c.times-times.result.now c.is_whole.ensures.whole c.times-times.ensures.times in
    record { flags = all_outdated c.args.keys.now c.args.block.now.rows c.loop-place.gone.items c.loop-place.place (omega (arith, lent.size, c.loop-place-test.false)) c.loop-place.invariant }
