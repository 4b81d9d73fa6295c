use Rattle.std.proofs.Common.{◌≡◌, refl, ◌∙◌, ◌<◌, ◌++◌, ◌∷◌, [], ℕ, List, ap, sym, arith, length, map, get_or, set, slice_index, Vec, Global}
use Rattle.std.proofs.lemmas.List.{length-map, map-set, get_or-map}
use Rattle.std.proofs.lemmas.List.FromFn.{length-map-range_with_len}
use Rattle.qd_sample.proofs.Deals.{hand, dealt_more}
use Rattle.qd_sample.proofs.groups.dealt.Goals as goal

pub index_mut-requires : goal.index_mut-requires
index_mut-requires c =
    let x = slice_index c.args.items.now c.loop-item.item-index in
    let size : length c.loop-item.lists.items ≡ c.args.count = sym (length-map c.loop-item.lists.items (λ v. v.items)) ∙ ap length c.loop-item.invariant ∙ length-map-range_with_len (hand c.args.classes.now c.args.items.now c.loop-item.item-index) 0 c.args.count in
    let low = c.requires.below x 0 (c.requires.there c.loop-item.item-index 0 c.loop-item-test.true) in
    omega (arith, low, size, c.loop-item.lists.ok.0)

pub loop-item-preserved : goal.loop-item-preserved
loop-item-preserved c =
    let classes = c.args.classes.now in
    let items = c.args.items.now in
    let i : ℕ = c.loop-item.item-index in
    let x : ℕ = slice_index items i in
    let k : ℕ = slice_index classes x in
    let lists = c.loop-item.lists.items in
    let old = c.index_mut.result.now in
    let new = c.push.new.self in
    let below = c.requires.below x 0 (c.requires.there i 0 c.loop-item-test.true) in
    let size : length c.loop-item.lists.items ≡ c.args.count = sym (length-map lists (λ v. v.items)) ∙ ap length c.loop-item.invariant ∙ length-map-range_with_len (hand classes items i) 0 c.args.count in
    let low : slice_index c.args.classes.now (slice_index c.args.items.now c.loop-item.item-index) < length c.loop-item.lists.items = omega (arith, below, size) in
    let read : old.items ≡ get_or (map (λ (v : Vec ℕ Global). v.items) lists) k [] = ap (λ (v : Vec ℕ Global). v.items) c.index_mut.ensures.value ∙ sym (get_or-map (λ (v : Vec ℕ Global). v.items) lists k old [] low) in
    dealt_more classes items i c.args.count x k (map (λ (v : Vec ℕ Global). v.items) lists) (map (λ (v : Vec ℕ Global). v.items) (set lists k new)) new.items c.loop-item-test.true refl refl below c.loop-item.invariant
    (c.in_ok-push.ensures.items ∙ ap (λ (l : List ℕ). l ++ x ∷ []) read)
    (map-set (λ (v : Vec ℕ Global). v.items) lists k new)
