use Rattle.std.proofs.Common.{◌≡◌, ◌∙◌, ◌+◌, ◌<◌, ℕ, List, [], ◌∷◌, ◌++◌, length, get_or, Err, IfSome, refl, sym, ap, subst, arith}
use Rattle.std.proofs.lemmas.List.{length_push}
use Rattle.std.proofs.lemmas.Result.{err_from_is_err_and}
use Rattle.qd_durable.specs.declared.fault.LogFault.{LogFault}
use Rattle.qd_volume.specs.Disk.{reads_of}
use Rattle.qd_versions.specs.declared.growing.Growing.{Growing}
use Rattle.qd_versions.specs.declared.published.GrownBlock.{GrownBlock}
use Rattle.qd_versions.specs.Tails.{AreTails, AreTailsRead, IsGrowing}
use Rattle.qd_versions.proofs.Steps.{item_is}
use Rattle.qd_versions.proofs.Tails.{pairs_more, tails_lost, tails_more, tails_none}
use Rattle.qd_versions.proofs.store.VersionStore.read_tails.Goals as goal

pub loop-added-init : goal.loop-added-init
loop-added-init g c = record {
  count = ap (λ (ys : List Growing). length ys) c.in_ok-growing.ensures.items;
  each = λ k d e less. absurd (omega arith);
  told = tails_none c.args.self.now c.args.grown.now c.in_ok-growing.growing.items _;
  stays = refl;
  counted = refl;
}

pub returns-in_err-one-clause-told : goal.returns-in_err-one-clause-told
returns-in_err-one-clause-told g c =
    let p = err_from_is_err_and c.from_residual-in_err-one.result c.from_residual-in_err-one.ensures.1 in
    let inv = c.loop-added.invariant in
    let v = c.args.self.now.versions in
    let grown = c.args.grown.now in
    let i = c.loop-added.added-index in
    let here : i < length grown = omega arith in
    let x = c.added-item.result in
    let is = item_is grown i x here c.added-item.is in
    rw p.1
    (subst (λ (f : LogFault). IfSome (g.V.Volume.storage c.args.volume.now).disk (λ disk. AreTailsRead (Err f) c.args.self.now grown (reads_of disk))) (sym p.2)
    (tails_lost c.args.self.now grown c.loop-added.growing.items x i is c.in_err-one.field-0.0 _ _ here inv.stays c.in_err-one.ensures.told))

pub loop-added-preserved : goal.loop-added-preserved
loop-added-preserved g c =
    let inv = c.loop-added.invariant in
    let v = c.args.self.now.versions in
    let grown = c.args.grown.now in
    let i = c.loop-added.added-index in
    let here : i < length grown = omega arith in
    let x = c.added-item.result in
    let is = item_is grown i x here c.added-item.is in
    let xs = c.loop-added.growing.items in
    let one = c.in_ok-one.one in
    let pushed : c.push.new.self.items ≡ xs ++ one ∷ [] = c.in_ok-push.ensures.items in
    record {
      count = ap (λ (ys : List Growing). length ys) pushed ∙ length_push xs one ∙ ap (λ n. n + 1) inv.count;
      each = subst (λ (ys : List Growing). (k : ℕ) (d : GrownBlock) (e : Growing) → k < i + 1 → IsGrowing v (get_or grown k d) (get_or ys k e)) (sym pushed) (pairs_more (IsGrowing v) grown xs x one i inv.count is c.in_ok-one.ensures.growing inv.each);
      told = subst (λ (ys : List Growing). IfSome (g.V.Volume.storage c.args.volume.now).disk (λ disk. AreTails (i + 1) c.args.self.now grown ys (reads_of disk))) (sym pushed) (tails_more c.args.self.now grown xs x i is one _ _ inv.count inv.stays inv.told c.in_ok-one.ensures.told);
      stays = c.in_ok-one.ensures.stays ∙ inv.stays;
      counted = c.in_ok-one.ensures.counted ∙ inv.counted;
    }

pub returns-clause-growing : goal.returns-clause-growing
returns-clause-growing g c =
    let inv = c.loop-added.invariant in
    let all : c.loop-added.added-index ≡ length c.args.grown.now = omega (arith, c.loop-added-test.false, c.loop-added.auto.added-index-end) in
    record {
      count = inv.count ∙ all;
      each = λ k d e less. inv.each k d e (omega (arith, less, all));
    }

pub returns-clause-told : goal.returns-clause-told
returns-clause-told g c =
    let all : c.loop-added.added-index ≡ length c.args.grown.now = omega (arith, c.loop-added-test.false, c.loop-added.auto.added-index-end) in
    subst (λ n. IfSome (g.V.Volume.storage c.args.volume.now).disk (λ disk. AreTails n c.args.self.now c.args.grown.now c.loop-added.growing.items (reads_of disk))) all c.loop-added.invariant.told
