use Rattle.std.proofs.Common.{◌≡◌, ◌∙◌, ℕ, ◌<◌, ◌≤◌, ◌++◌, ◌∷◌, [], ap, ap₂, sym, length, map, get_or, slice_range, append_assoc, arith}
use Rattle.qd_time.specs.Units.{unit_of, start_of}
use Rattle.qd_merge.specs.declared.shares.Share.{Share}
use Rattle.qd_merge.specs.declared.shares.Share.TheVariants as share
use Rattle.qd_merge.specs.Acts.{before, between, partition_end, partitions}
use Rattle.qd_merge.specs.Shares.{new_share}
use Rattle.qd_merge.proofs.Plans.{before_splits, between_slice, partition_next, place_passed}
use Rattle.qd_merge.proofs.shares.push_new_shares.Goals as goal

pub loop-place-init : goal.loop-place-init
loop-place-init c =
    let times = c.args.times.now in
    let u = unit_of c.args.unit in
    let same : slice_range times c.count_before-place.result c.count_before-last.result ≡ between c.args.from c.args.to times = ap₂ (slice_range times) c.count_before-place.ensures.count c.count_before-last.ensures.count ∙ sym (between_slice c.args.from c.args.to times c.requires.in_order) in
    ap (λ l. c.args.list.now.items ++ map (new_share u times) (partitions u l)) same

pub loop-place-smaller : goal.loop-place-smaller
loop-place-smaller c =
    let times = c.args.times.now in
    let u = unit_of c.args.unit in
    let t = get_or times c.loop-place.place 0 in
    let end : c.count_before-end.result ≡ before (partition_end u (start_of u t)) times = c.count_before-end.ensures.count ∙ ap (λ m. before m times) (c.end_of_partition.ensures.end ∙ ap (partition_end u) c.floor_unit-start.ensures.start) in
    let last = before_splits c.args.to times c.requires.in_order in
    let within : c.count_before-last.result ≤ length times = (let w = last.within in let e = c.count_before-last.ensures.count in omega arith) in
    let low : c.loop-place.place < length times = (let l = c.loop-place-test.true in omega arith) in
    let passed = place_passed u times c.loop-place.place c.requires.in_order c.requires.times low in
    omega arith

pub loop-place-preserved : goal.loop-place-preserved
loop-place-preserved c =
    let times = c.args.times.now in
    let u = unit_of c.args.unit in
    let t = get_or times c.loop-place.place 0 in
    let s = start_of u t in
    let e : c.count_before-end.result ≡ before (partition_end u s) times = c.count_before-end.ensures.count ∙ ap (λ m. before m times) (c.end_of_partition.ensures.end ∙ ap (partition_end u) c.floor_unit-start.ensures.start) in
    let from : c.count_before.result ≡ before s times = c.count_before.ensures.count ∙ ap (λ m. before m times) c.floor_unit-start.ensures.start in
    let last = before_splits c.args.to times c.requires.in_order in
    let within : c.count_before-last.result ≤ length times = (let w = last.within in let same = c.count_before-last.ensures.count in omega arith) in
    let rest = λ (n : ℕ). map (new_share u times) (partitions u (slice_range times n c.count_before-last.result)) in
    let pushed : c.push.new.self.items ≡ c.loop-place.list.items ++ new_share u times s ∷ [] = c.in_ok-push.ensures.items ∙ ap (λ (a : Share). c.loop-place.list.items ++ a ∷ []) (ap₂ (λ a b. share.New a b) from e) in
    ap₂ (λ a b. a ++ b) pushed (ap rest e) ∙ append_assoc c.loop-place.list.items (new_share u times s ∷ []) (rest (before (partition_end u s) times))
    ∙ ap (λ l. c.loop-place.list.items ++ map (new_share u times) l) (sym (partition_next u times c.loop-place.place c.requires.in_order c.requires.times c.count_before-last.result c.loop-place-test.true within)) ∙ c.loop-place.invariant
