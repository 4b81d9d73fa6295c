use Rattle.std.proofs.Common.{◌≡◌, ◌<◌, ◌^◌, length, get_or, set, refl, sym, ◌∙◌, subst, arith}
use Rattle.std.proofs.lemmas.List.{get_or-set_other, get_or-set_same, get_or_default}
use Rattle.std.proofs.lemmas.Result.{err_from_is_err_and}
use Rattle.qd_durable.specs.Moments.{Told}
use Rattle.qd_versions.specs.declared.growing.Growing.{Growing}
use Rattle.qd_versions.proofs.Growths.{HasGrown}
use Rattle.qd_versions.proofs.ToldLemmas.{grown_all_told, grown_failed_told, grown_more_told, grown_none_told}
use Rattle.qd_versions.proofs.growing.grow_blocks.Goals as goal

pub loop-i-init : goal.loop-i-init
loop-i-init g c = record { told = grown_none_told c.args.growing.now _; left = λ k d le. refl; counted = refl }

pub returns-in_err-grow-clause-told : goal.returns-in_err-grow-clause-told
returns-in_err-grow-clause-told g c =
    let p = err_from_is_err_and c.from_residual.result c.from_residual.ensures.1 in
    let i = c.loop-i.i in
    let was = c.args.growing.now in
    let here : i < length was = omega (arith, c.loop-i.auto.growing) in
    let x : Growing = get_or c.loop-i.growing i c.index-growing-i.result in
    let is : (d : Growing) → get_or was i d ≡ x = λ d. sym (c.loop-i.invariant.left i d (omega arith)) ∙ get_or_default c.loop-i.growing i d c.index-growing-i.result (omega arith) in
    rw p.1 (grown_failed_told (2 ^ 52) i was c.requires.fit c.requires.apart here x is c.loop-i.growing _ _ _ c.loop-i.invariant.told c.in_err-grow.field-0.0 p.0 c.grow.new.x.tail _ c.in_err-grow.ensures.told)

pub loop-i-preserved : goal.loop-i-preserved
loop-i-preserved g c =
    let i = c.loop-i.i in
    let was = c.args.growing.now in
    let here : i < length was = omega (arith, c.loop-i.auto.growing) in
    let x : Growing = get_or c.loop-i.growing i c.index-growing-i.result in
    let is : (d : Growing) → get_or was i d ≡ x = λ d. sym (c.loop-i.invariant.left i d (omega arith)) ∙ get_or_default c.loop-i.growing i d c.index-growing-i.result (omega arith) in
    record {
      told = grown_more_told (2 ^ 52) i was c.requires.fit c.requires.apart here x is c.loop-i.growing _ _ _ c.loop-i.invariant.told c.in_ok-grow.field-0 c.grow.new.x (set c.loop-i.growing i c.grow.new.x) c.grow.ensures.block
          (λ e. get_or-set_same c.loop-i.growing i c.grow.new.x e (omega (arith, here, c.loop-i.auto.growing)))
          (λ k e less. get_or-set_other c.loop-i.growing i k c.grow.new.x e (λ same. omega (arith, same, less)))
          c.in_ok-grow.ensures.told;
      left = λ k d le. get_or-set_other c.loop-i.growing i k c.grow.new.x d (λ e. omega (arith, e, le)) ∙ c.loop-i.invariant.left k d (omega (arith, le));
      counted = c.in_ok-grow.ensures.counted ∙ c.loop-i.invariant.counted;
    }

pub returns-clause-told : goal.returns-clause-told
returns-clause-told g c =
    let all : c.loop-i.i ≡ length c.args.growing.now = omega (arith, c.loop-i.auto.growing) in
    grown_all_told tt c.args.growing.now c.loop-i.growing _ _ c.loop-i.auto.growing
    (subst (λ n. Told (g.V.Volume.storage c.args.volume.now).disk (g.V.Volume.storage c.loop-i.volume).disk (HasGrown n c.args.growing.now c.loop-i.growing)) all c.loop-i.invariant.told)
