use Rattle.std.proofs.Common.{◌≡◌, ◌∙◌, ◌<◌, ℕ, List, All, ap, ap₂, arith, eqb, filter, length, map, slice_index, subst, sym}
use Rattle.std.specs.List.{range_with_len}
use Rattle.std.proofs.lemmas.Result.{IfOk-weaker}
use Rattle.qd_sample.proofs.Settings.{range_there}
use Rattle.qd_sample.proofs.sampling.in_order.Goals as goal

pub dealt-requires-clause-there : goal.dealt-requires-clause-there
dealt-requires-clause-there c =
    let groups : ℕ = length c.args.pairs.now.groups.firsts.items in
    let all : c.as_slice-2.result.now ≡ range_with_len 0 (length c.args.pairs.now.groups.firsts.items) = c.as_slice-2.ensures.value ∙ c.in_ok-all.ensures.numbers ∙ ap (range_with_len 0) (omega (arith, c.len.ensures, c.args.pairs.now.groups.firsts.ok.0)) in
    subst (λ (l : List ℕ). All (λ x. x < length c.as_slice.result.now) l) (sym all)
    (subst (λ (l : List ℕ). All (λ x. x < length l) (range_with_len 0 groups)) (sym c.as_slice.ensures.value) (range_there c.args.pairs.now.buckets.items groups c.requires.count))

pub returns : goal.returns
returns c =
    let all : c.as_slice-2.result.now ≡ range_with_len 0 (length c.args.pairs.now.groups.firsts.items) = c.as_slice-2.ensures.value ∙ c.in_ok-all.ensures.numbers ∙ ap (range_with_len 0) (omega (arith, c.len.ensures, c.args.pairs.now.groups.firsts.ok.0)) in
    record { lists = IfOk-weaker c.dealt.result _ _ (λ v h. h ∙ ap₂ (λ (of items : List ℕ). map (λ b. filter (λ g. eqb (slice_index of g) b) items) (range_with_len 0 c.args.buckets)) c.as_slice.ensures.value all) c.dealt.ensures.dealt }
