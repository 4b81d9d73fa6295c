use Rattle.std.proofs.Common.{◌≡◌, ◌∙◌, ◌++◌, ◌-◌, ◌<◌, ◌≤◌, ℕ, List, Bool, false, ap, subst, length, arith, All, map, replicate, slice_range}
use Rattle.qd_base.specs.Rows.{time_of}
use Rattle.qd_merge.specs.Equals.{taken}
use Rattle.qd_merge.specs.Merged.{with_missing}
use Rattle.qd_merge.proofs.Lent.{lent_times, at_col, timed_within}
use Rattle.qd_merge.proofs.Groups.{IsGroup, group_found, far_group, near_group}
use Rattle.qd_merge.proofs.replaced.push_group.Goals as goal

pub first_later-end-requires : goal.first_later-end-requires
first_later-end-requires c =
    let new = lent_times c.args.batch.now c.times-coming.result.now c.is_whole-2.ensures.whole c.times-coming.ensures.times in
    omega (arith, new.size, c.requires.there)

pub first_from-from-requires : goal.first_from-from-requires
first_from-from-requires c =
    let old = lent_times c.args.old.now c.times-moments.result.now c.is_whole.ensures.whole c.times-moments.ensures.times in
    omega (arith, old.size, c.requires.so_far.few)

pub returns-in_ok-push_equals-clause-so_far : goal.returns-in_ok-push_equals-clause-so_far
returns-in_ok-push_equals-clause-so_far c =
    let b = c.args.batch.now in
    let o = c.args.old.now in
    let keys = c.args.keys.now in
    let col : ℕ = b.time_col in
    let moments : List ℕ = c.times-moments.result.now in
    let coming : List ℕ = c.times-coming.result.now in
    let old = lent_times o moments c.is_whole.ensures.whole c.times-moments.ensures.times in
    let new = lent_times b coming c.is_whole-2.ensures.whole c.times-coming.ensures.times in
    let rows_are : map (time_of col) o.rows ≡ moments = at_col o moments col c.requires.time_col old in
    let wide : All (λ r. col < length r) o.rows = subst (λ (t : ℕ). All (λ r. t < length r) o.rows) c.requires.time_col (timed_within o c.is_whole.ensures.whole) in
    let there : c.args.place < length coming = omega (arith, new.size, c.requires.there) in
    let flags : List Bool = c.args.gone.now.items in
    let end : ℕ = c.first_later-end.result in
    let from : ℕ = c.first_from-from.result in
    let to : ℕ = c.first_later-to.result in
    let low : length flags ≤ from = omega (arith, c.first_from-from.ensures.from, c.len.ensures, c.args.gone.now.ok.0) in
    let group : IsGroup moments coming (length flags) c.args.place end from to =
    group_found moments coming (length flags) c.args.place end from to there c.first_later-end.ensures.from c.first_later-end.ensures.within c.first_later-end.ensures.upto c.first_later-end.ensures.later
    low c.first_from-from.ensures.within (λ i a z. c.first_from-from.ensures.earlier i (omega arith) z) c.first_from-from.ensures.no_earlier
    c.first_later-to.ensures.from c.first_later-to.ensures.within c.first_later-to.ensures.upto c.first_later-to.ensures.later in
    let count : from - c.len-2.result ≡ from - length flags = omega (arith, c.len-2.ensures, c.args.gone.now.ok.0) in
    let padded : c.push_false.new.gone.items ≡ flags ++ replicate (from - length flags) false = c.in_ok-push_false.ensures.added ∙ ap (λ n. flags ++ replicate n false) count in
    let equals : List Bool = taken keys (map (with_missing b.kinds) (slice_range o.rows from to)) (slice_range b.rows c.args.place end) in
    let added : c.push_equals.new.gone.items ≡ (flags ++ replicate (from - length flags) false) ++ equals = c.in_ok-push_equals.ensures.added ∙ ap (λ (u : List Bool). u ++ equals) padded in
    near_group col keys b.kinds b.rows o.rows moments coming flags c.args.place end from to c.push_equals.new.gone.items c.requires.keys rows_are new.same old.rise new.rise wide c.requires.so_far group added

pub returns-else-from-to-clause-so_far : goal.returns-else-from-to-clause-so_far
returns-else-from-to-clause-so_far c =
    let b = c.args.batch.now in
    let o = c.args.old.now in
    let keys = c.args.keys.now in
    let col : ℕ = b.time_col in
    let moments : List ℕ = c.times-moments.result.now in
    let coming : List ℕ = c.times-coming.result.now in
    let old = lent_times o moments c.is_whole.ensures.whole c.times-moments.ensures.times in
    let new = lent_times b coming c.is_whole-2.ensures.whole c.times-coming.ensures.times in
    let rows_are : map (time_of col) o.rows ≡ moments = at_col o moments col c.requires.time_col old in
    let wide : All (λ r. col < length r) o.rows = subst (λ (t : ℕ). All (λ r. t < length r) o.rows) c.requires.time_col (timed_within o c.is_whole.ensures.whole) in
    let there : c.args.place < length coming = omega (arith, new.size, c.requires.there) in
    let flags : List Bool = c.args.gone.now.items in
    let end : ℕ = c.first_later-end.result in
    let from : ℕ = c.first_from-from.result in
    let to : ℕ = c.first_later-to.result in
    let low : length flags ≤ from = omega (arith, c.first_from-from.ensures.from, c.len.ensures, c.args.gone.now.ok.0) in
    let group : IsGroup moments coming (length flags) c.args.place end from to =
    group_found moments coming (length flags) c.args.place end from to there c.first_later-end.ensures.from c.first_later-end.ensures.within c.first_later-end.ensures.upto c.first_later-end.ensures.later
    low c.first_from-from.ensures.within (λ i a z. c.first_from-from.ensures.earlier i (omega arith) z) c.first_from-from.ensures.no_earlier
    c.first_later-to.ensures.from c.first_later-to.ensures.within c.first_later-to.ensures.upto c.first_later-to.ensures.later in
    let count : from - c.len-2.result ≡ from - length flags = omega (arith, c.len-2.ensures, c.args.gone.now.ok.0) in
    let padded : c.push_false.new.gone.items ≡ flags ++ replicate (from - length flags) false = c.in_ok-push_false.ensures.added ∙ ap (λ n. flags ++ replicate n false) count in
    let none : from ≡ to = omega (arith, c.if-from-to.false, c.first_later-to.ensures.from) in
    far_group col keys b.kinds b.rows o.rows moments coming flags c.args.place end from to c.push_false.new.gone.items c.requires.keys rows_are new.same old.rise new.rise wide c.requires.so_far group none padded

pub push_equals-requires : goal.push_equals-requires
push_equals-requires c =
    let old = lent_times c.args.old.now c.times-moments.result.now c.is_whole.ensures.whole c.times-moments.ensures.times in
    let new = lent_times c.args.batch.now c.times-coming.result.now c.is_whole-2.ensures.whole c.times-coming.ensures.times in
    record {
      within = record {
        ordered = c.first_later-to.ensures.from;
        block = omega (arith, old.size, c.first_later-to.ensures.within);
        ascending = c.first_later-end.ensures.from;
        batch = omega (arith, new.size, c.first_later-end.ensures.within);
        narrow = c.requires.narrow;
      };
    }
