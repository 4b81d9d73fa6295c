use Rattle.std.proofs.Common.{◌≡◌, ◌∙◌, ◌<◌, ℕ, List, All, Vec, Global, ap, ap₂, arith, eqb, filter, length, map, slice_index, subst, sym}
use Rattle.std.specs.List.{flat_map, range_with_len}
use Rattle.std.proofs.lemmas.List.Folds.{flat_map-map}
use Rattle.std.proofs.lemmas.Result.{IfOk-weaker}
use Rattle.qd_sample.specs.Cells.{by_key}
use Rattle.qd_sample.proofs.Settings.{by_key_there, range_there}
use Rattle.qd_sample.proofs.sampling.in_key_order.Goals as goal

-- items dealt by their classes, one class after another
joined : (of_keys : List (Vec ℕ Global)) (keys lent ordered of all : List ℕ) (groups count : ℕ) → ordered ≡ flat_map (λ (v : Vec ℕ Global). v.items) of_keys → map (λ (v : Vec ℕ Global). v.items) of_keys ≡ map (λ k. filter (λ g. eqb (slice_index of g) k) all) (range_with_len 0 count)
    → of ≡ keys → all ≡ range_with_len 0 groups → lent ≡ ordered → lent ≡ by_key keys groups count
joined of_keys keys lent ordered of all groups count flat dealt of_is all_is lent_is =
    lent_is
    ∙ flat
    ∙ sym (flat_map-map (λ (l : List ℕ). l) (λ (v : Vec ℕ Global). v.items) of_keys)
    ∙ ap (flat_map (λ (l : List ℕ). l)) (dealt ∙ ap₂ (λ (cs items : List ℕ). map (λ k. filter (λ g. eqb (slice_index cs g) k) items) (range_with_len 0 count)) of_is all_is)
    ∙ flat_map-map (λ (l : List ℕ). l) (λ k. filter (λ g. eqb (slice_index keys g) k) (range_with_len 0 groups)) (range_with_len 0 count)

pub dealt-requires-clause-there : goal.dealt-requires-clause-there
dealt-requires-clause-there c =
    let groups : ℕ = length c.args.pairs.now.groups.firsts.items in
    let all : c.as_slice-2.result.now ≡ range_with_len 0 (length c.args.pairs.now.groups.firsts.items) = c.as_slice-2.ensures.value ∙ c.in_ok-all.ensures.numbers ∙ ap (range_with_len 0) (omega (arith, c.len.ensures, c.args.pairs.now.groups.firsts.ok.0)) in
    subst (λ (l : List ℕ). All (λ x. x < length c.as_slice.result.now) l) (sym all)
    (subst (λ (l : List ℕ). All (λ x. x < length l) (range_with_len 0 groups)) (sym c.as_slice.ensures.value) (range_there c.args.pairs.now.keys.items groups c.requires.keyed))

pub dealt-requires-2-clause-there : goal.dealt-requires-2-clause-there
dealt-requires-2-clause-there c =
    let groups : ℕ = length c.args.pairs.now.groups.firsts.items in
    let keys = c.args.pairs.now.keys.items in
    let all : c.as_slice-2.result.now ≡ range_with_len 0 (length c.args.pairs.now.groups.firsts.items) = c.as_slice-2.ensures.value ∙ c.in_ok-all.ensures.numbers ∙ ap (range_with_len 0) (omega (arith, c.len.ensures, c.args.pairs.now.groups.firsts.ok.0)) in
    let ordered = joined c.in_ok-of_keys.of_keys.items keys c.as_slice-5.result.now c.in_ok-ordered.ordered.items c.as_slice.result.now c.as_slice-2.result.now groups c.args.keys (c.in_ok-ordered.ensures.flat ∙ ap (flat_map (λ (v : Vec ℕ Global). v.items)) c.as_slice-3.ensures.value) c.in_ok-of_keys.ensures.dealt c.as_slice.ensures.value all c.as_slice-5.ensures.value in
    subst (λ (l : List ℕ). All (λ x. x < length c.as_slice-4.result.now) l) (sym ordered)
    (subst (λ (l : List ℕ). All (λ x. x < length l) (by_key keys groups c.args.keys)) (sym c.as_slice-4.ensures.value) (by_key_there keys c.args.pairs.now.buckets.items groups c.args.keys c.requires.count))

pub returns : goal.returns
returns c =
    let groups : ℕ = length c.args.pairs.now.groups.firsts.items in
    let keys = c.args.pairs.now.keys.items in
    let all : c.as_slice-2.result.now ≡ range_with_len 0 (length c.args.pairs.now.groups.firsts.items) = c.as_slice-2.ensures.value ∙ c.in_ok-all.ensures.numbers ∙ ap (range_with_len 0) (omega (arith, c.len.ensures, c.args.pairs.now.groups.firsts.ok.0)) in
    let ordered = joined c.in_ok-of_keys.of_keys.items keys c.as_slice-5.result.now c.in_ok-ordered.ordered.items c.as_slice.result.now c.as_slice-2.result.now groups c.args.keys (c.in_ok-ordered.ensures.flat ∙ ap (flat_map (λ (v : Vec ℕ Global). v.items)) c.as_slice-3.ensures.value) c.in_ok-of_keys.ensures.dealt c.as_slice.ensures.value all c.as_slice-5.ensures.value in
    record { lists = IfOk-weaker c.dealt-2.result _ _ (λ v h. h ∙ ap₂ (λ (of items : List ℕ). map (λ b. filter (λ g. eqb (slice_index of g) b) items) (range_with_len 0 c.args.buckets)) c.as_slice-4.ensures.value ordered) c.dealt-2.ensures.dealt }
