use Rattle.std.proofs.Common.{◌≡◌, ◌∙◌, ◌+◌, ◌-◌, ◌<◌, ap, ℕ, false, true, eqb, length, get_or, drop, arith}
use Rattle.std.specs.List.{list_any}
use Rattle.std.proofs.lemmas.List.{length-replicate, length-set, get_or_default}
use Rattle.qd_merge.proofs.ClassLemmas.{none_seen, seen_more, flags_more, repeats_by_places}
use Rattle.qd_merge.proofs.classes.repeated.Goals as goal

pub loop-place-init : goal.loop-place-init
loop-place-init c =
    let n : ℕ = length c.args.classes.now in
    let seen = c.in_ok-seen.ensures.items_if_clones_equal (λ y e. e) in
    let flags = c.in_ok-flags.ensures.items_if_clones_equal (λ y e. e) in
    record {
      within = omega arith;
      seen_size = ap length seen ∙ length-replicate n false;
      size = ap length flags ∙ length-replicate n false;
      seen = none_seen c.args.classes.now c.in_ok-seen.seen.items seen;
      flags = λ k low high. absurd (omega arith);
    }

pub loop-place-preserved : goal.loop-place-preserved
loop-place-preserved c =
    let cs = c.args.classes.now in
    let inv = c.loop-place.invariant in
    let p : ℕ = c.loop-place.place - 1 in
    let next : c.loop-place.place ≡ p + 1 = omega (arith, c.loop-place-test.true) in
    let low : p < length cs = omega (arith, inv.within, c.loop-place-test.true) in
    let class : ℕ = get_or cs p 0 in
    let class_low : class < length cs = c.requires p 0 low in
    let within : class < length c.loop-place.seen.items = omega (arith, inv.seen_size) in
    let seen : (x : ℕ) → x < length cs → get_or c.loop-place.seen.items x false ≡ list_any (λ d. eqb x d) (drop (p + 1) cs) = λ x lt. inv.seen x lt ∙ ap (λ k. list_any (λ d. eqb x d) (drop k cs)) next in
    let flag : c.index.result.now ≡ list_any (λ d. eqb class d) (drop (p + 1) cs) = c.index.ensures ∙ get_or_default c.loop-place.seen.items class c.index.result.now false within ∙ seen class class_low in
    record {
      within = omega (arith, inv.within);
      seen_size = length-set c.loop-place.seen.items class true ∙ inv.seen_size;
      size = length-set c.loop-place.flags.items p c.index.result.now ∙ inv.size;
      seen = seen_more cs c.loop-place.seen.items p low within seen;
      flags = flags_more cs c.loop-place.flags.items c.index.result.now p (omega (arith, inv.size)) flag (λ k from lt. inv.flags k (omega arith) lt);
    }

pub returns : goal.returns
returns c = record { flags = repeats_by_places c.args.classes.now c.loop-place.flags.items c.loop-place.invariant.size (λ k lt. c.loop-place.invariant.flags k (omega (arith, c.loop-place-test.false)) lt) }
