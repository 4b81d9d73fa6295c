use Rattle.std.proofs.Common.{◌≡◌, ◌∙◌, ◌<◌, ◌≤◌, ◌-◌, ◌/◌, Err, ℕ, List, ap, ap₂, eqb, filter, sym, subst, arith, length, map, get_or, slice_index, All, Vec, Global}
use Rattle.std.specs.List.{range_with_len}
use Rattle.std.proofs.lemmas.List.{length-map}
use Rattle.std.proofs.lemmas.Result.{err_from_is_err_and}
use Rattle.qd_base.specs.declared.limits.TheConstants.{MAX_SAMPLED_ROWS}
use Rattle.qd_group.specs.Grouping.{answers_of, same_rows, AreGroups}
use Rattle.qd_meaning.specs.declared.parts.Fill.{Fill}
use Rattle.qd_meaning.specs.Sampled.{each_fill}
use Rattle.qd_rows.specs.Sets.{rows_in}
use Rattle.qd_value.specs.declared.bound.Bound.{Bound}
use Rattle.qd_value.specs.declared.scalars.Scalar.{Scalar}
use Rattle.qd_value.specs.Scalars.{cell_of}
use Rattle.qd_sample.specs.declared.fault.SampleFault.TheVariants.{TooMany}
use Rattle.qd_sample.specs.Sampling.{starts_of}
use Rattle.qd_sample.specs.Starts.{AreStarts}
use Rattle.qd_sample.proofs.Counts.{few_rows, many_rows, same_fault, some_key}
use Rattle.qd_sample.proofs.Handed.{both_sized, buckets_low, groups_low, groups_sized, heads_low, keys_low, known_from}
use Rattle.qd_sample.proofs.Made.{fills_sized, filled_made}
use Rattle.qd_sample.proofs.Settings.{columns_sized, dealt_range, dealt_size, first_start, some_start}
use Rattle.qd_sample.proofs.Whole.{starts_are}
use Rattle.qd_sample.proofs.sampling.filled.Goals as goal

pub starts_between-requires-clause-order : goal.starts_between-requires-clause-order
starts_between-requires-clause-order g c =
    c.requires.times.rise 0 (length c.args.times.now - 1) (omega arith) (omega (arith, c.requires.some))

pub starts_between-requires-clause-high : goal.starts_between-requires-clause-high
starts_between-requires-clause-high g c =
    c.requires.times.high (length c.args.times.now - 1) (omega (arith, c.requires.some))

pub starts_between-requires-clause-reached : goal.starts_between-requires-clause-reached
starts_between-requires-clause-reached g c =
    c.requires.times.reached 0 c.requires.some

pub bucket_numbers-requires-clause-some : goal.bucket_numbers-requires-clause-some
bucket_numbers-requires-clause-some g c =
    let whole = c.in_ok-starts.ensures.starts in
    let all = subst (AreStarts c.args.spec.now.stride c.args.align c.args.times.now) (sym whole) (starts_are c.args.spec.now c.args.align c.args.times.now c.requires.stride c.requires.times c.requires.some) in
    subst (λ (l : List ℕ). 0 < length l) (sym c.as_slice-2.ensures.value) (some_start c.args.spec.now.stride c.args.align c.args.times.now c.in_ok-starts.starts.items all c.requires.some)

pub bucket_numbers-requires-clause-first : goal.bucket_numbers-requires-clause-first
bucket_numbers-requires-clause-first g c =
    let whole = c.in_ok-starts.ensures.starts in
    let all = subst (AreStarts c.args.spec.now.stride c.args.align c.args.times.now) (sym whole) (starts_are c.args.spec.now c.args.align c.args.times.now c.requires.stride c.requires.times c.requires.some) in
    λ i low. subst (λ (l : List ℕ). get_or l 0 0 ≤ get_or c.args.times.now i 0) (sym c.as_slice-2.ensures.value) (first_start c.args.spec.now.stride c.args.align c.args.times.now c.in_ok-starts.starts.items c.requires.stride c.requires.times all i low)

pub bucket_numbers-requires-clause-order : goal.bucket_numbers-requires-clause-order
bucket_numbers-requires-clause-order g c =
    c.requires.times.rise

pub paired-requires : goal.paired-requires
paired-requires g c =
    ap length c.as_slice-3.ensures.value
    ∙ both_sized c.args.times.now c.as_slice-2.result.now c.in_ok-buckets.buckets.items c.in_ok-keys.keys.numbers.items c.in_ok-keys.keys.firsts.items (length c.args.rows.now.places) (same_rows c.as_slice.result.now c.args.rows.now) c.requires.count c.in_ok-buckets.ensures.numbers c.in_ok-keys.ensures.groups
    ∙ ap length (sym c.as_slice-4.ensures.value)

pub in_order-requires-clause-count : goal.in_order-requires-clause-count
in_order-requires-clause-count g c =
    ap length c.in_ok-pairs.ensures.buckets ∙ length-map c.in_ok-pairs.pairs.groups.firsts.items (λ f. slice_index c.as_slice-3.result.now f)

pub in_order-requires-clause-below : goal.in_order-requires-clause-below
in_order-requires-clause-below g c =
    let whole = c.in_ok-starts.ensures.starts in
    let all = subst (AreStarts c.args.spec.now.stride c.args.align c.args.times.now) (sym whole) (starts_are c.args.spec.now c.args.align c.args.times.now c.requires.stride c.requires.times c.requires.some) in
    let known = known_from c.args.rows.now c.args.spec.now c.args.align c.args.times.now c.in_ok-starts.starts.items c.in_ok-buckets.buckets.items c.in_ok-keys.keys.numbers.items c.in_ok-keys.keys.firsts.items c.in_ok-pairs.pairs.groups.numbers.items c.in_ok-pairs.pairs.groups.firsts.items c.as_slice-2.result.now c.as_slice-3.result.now c.as_slice-4.result.now c.as_slice.result.now c.requires.stride c.requires.times c.requires.some c.requires.count all c.as_slice-2.ensures.value c.in_ok-buckets.ensures.numbers c.as_slice.ensures.items c.in_ok-keys.ensures.groups c.as_slice-3.ensures.value c.as_slice-4.ensures.value c.in_ok-pairs.ensures.groups in
    let buckets_are = c.in_ok-pairs.ensures.buckets ∙ ap (λ (l : List ℕ). map (λ f. slice_index l f) c.in_ok-pairs.pairs.groups.firsts.items) c.as_slice-3.ensures.value in
    let all_starts : c.len-2.result ≡ length c.in_ok-starts.starts.items = omega (arith, c.len-2.ensures, c.in_ok-starts.starts.ok.0) in
    subst (λ (n : ℕ). All (λ b. b < n) c.in_ok-pairs.pairs.buckets.items) (sym all_starts) (subst (λ (l : List ℕ). All (λ b. b < length c.in_ok-starts.starts.items) l) (sym buckets_are) (buckets_low c.args.rows.now c.args.spec.now c.args.align c.args.times.now c.in_ok-starts.starts.items c.in_ok-buckets.buckets.items c.in_ok-keys.keys.numbers.items c.in_ok-keys.keys.firsts.items c.in_ok-pairs.pairs.groups.numbers.items c.in_ok-pairs.pairs.groups.firsts.items known))

pub columns_of-requires-clause-count : goal.columns_of-requires-clause-count
columns_of-requires-clause-count g c =
    let whole = c.in_ok-starts.ensures.starts in
    let all = subst (AreStarts c.args.spec.now.stride c.args.align c.args.times.now) (sym whole) (starts_are c.args.spec.now c.args.align c.args.times.now c.requires.stride c.requires.times c.requires.some) in
    let known = known_from c.args.rows.now c.args.spec.now c.args.align c.args.times.now c.in_ok-starts.starts.items c.in_ok-buckets.buckets.items c.in_ok-keys.keys.numbers.items c.in_ok-keys.keys.firsts.items c.in_ok-pairs.pairs.groups.numbers.items c.in_ok-pairs.pairs.groups.firsts.items c.as_slice-2.result.now c.as_slice-3.result.now c.as_slice-4.result.now c.as_slice.result.now c.requires.stride c.requires.times c.requires.some c.requires.count all c.as_slice-2.ensures.value c.in_ok-buckets.ensures.numbers c.as_slice.ensures.items c.in_ok-keys.ensures.groups c.as_slice-3.ensures.value c.as_slice-4.ensures.value c.in_ok-pairs.ensures.groups in
    groups_sized c.args.rows.now c.args.spec.now c.args.align c.args.times.now c.in_ok-starts.starts.items c.in_ok-buckets.buckets.items c.in_ok-keys.keys.numbers.items c.in_ok-keys.keys.firsts.items c.in_ok-pairs.pairs.groups.numbers.items c.in_ok-pairs.pairs.groups.firsts.items known

pub columns_of-requires-clause-below : goal.columns_of-requires-clause-below
columns_of-requires-clause-below g c =
    let whole = c.in_ok-starts.ensures.starts in
    let all = subst (AreStarts c.args.spec.now.stride c.args.align c.args.times.now) (sym whole) (starts_are c.args.spec.now c.args.align c.args.times.now c.requires.stride c.requires.times c.requires.some) in
    let known = known_from c.args.rows.now c.args.spec.now c.args.align c.args.times.now c.in_ok-starts.starts.items c.in_ok-buckets.buckets.items c.in_ok-keys.keys.numbers.items c.in_ok-keys.keys.firsts.items c.in_ok-pairs.pairs.groups.numbers.items c.in_ok-pairs.pairs.groups.firsts.items c.as_slice-2.result.now c.as_slice-3.result.now c.as_slice-4.result.now c.as_slice.result.now c.requires.stride c.requires.times c.requires.some c.requires.count all c.as_slice-2.ensures.value c.in_ok-buckets.ensures.numbers c.as_slice.ensures.items c.in_ok-keys.ensures.groups c.as_slice-3.ensures.value c.as_slice-4.ensures.value c.in_ok-pairs.ensures.groups in
    groups_low c.args.rows.now c.args.spec.now c.args.align c.args.times.now c.in_ok-starts.starts.items c.in_ok-buckets.buckets.items c.in_ok-keys.keys.numbers.items c.in_ok-keys.keys.firsts.items c.in_ok-pairs.pairs.groups.numbers.items c.in_ok-pairs.pairs.groups.firsts.items known

pub rows_of_keys-requires-clause-firsts : goal.rows_of_keys-requires-clause-firsts
rows_of_keys-requires-clause-firsts g c =
    let whole = c.in_ok-starts.ensures.starts in
    let all = subst (AreStarts c.args.spec.now.stride c.args.align c.args.times.now) (sym whole) (starts_are c.args.spec.now c.args.align c.args.times.now c.requires.stride c.requires.times c.requires.some) in
    let known = known_from c.args.rows.now c.args.spec.now c.args.align c.args.times.now c.in_ok-starts.starts.items c.in_ok-buckets.buckets.items c.in_ok-keys.keys.numbers.items c.in_ok-keys.keys.firsts.items c.in_ok-pairs.pairs.groups.numbers.items c.in_ok-pairs.pairs.groups.firsts.items c.as_slice-2.result.now c.as_slice-3.result.now c.as_slice-4.result.now c.as_slice.result.now c.requires.stride c.requires.times c.requires.some c.requires.count all c.as_slice-2.ensures.value c.in_ok-buckets.ensures.numbers c.as_slice.ensures.items c.in_ok-keys.ensures.groups c.as_slice-3.ensures.value c.as_slice-4.ensures.value c.in_ok-pairs.ensures.groups in
    subst (λ (l : List ℕ). All (λ f. f < length c.args.rows.now.places) l) (sym c.as_slice-8.ensures.value) (heads_low c.args.rows.now c.args.spec.now c.args.align c.args.times.now c.in_ok-starts.starts.items c.in_ok-buckets.buckets.items c.in_ok-keys.keys.numbers.items c.in_ok-keys.keys.firsts.items c.in_ok-pairs.pairs.groups.numbers.items c.in_ok-pairs.pairs.groups.firsts.items known)

pub rows_of_keys-requires-clause-count : goal.rows_of_keys-requires-clause-count
rows_of_keys-requires-clause-count g c =
    let all_starts : c.len-2.result ≡ length c.in_ok-starts.starts.items = omega (arith, c.len-2.ensures, c.in_ok-starts.starts.ok.0) in
    ap length c.as_slice-10.ensures.value ∙ dealt_size (λ (v : Vec ℕ Global). v.items) c.in_ok-lists.lists.items _ c.len-2.result c.in_ok-lists.ensures.lists ∙ all_starts ∙ ap length (sym c.as_slice-9.ensures.value)

pub rows_of_keys-requires-clause-groups : goal.rows_of_keys-requires-clause-groups
rows_of_keys-requires-clause-groups g c =
    let keys_size : length c.in_ok-pairs.pairs.groups.firsts.items ≡ length c.as_slice-11.result.now = sym (ap length (c.as_slice-11.ensures.value ∙ c.in_ok-pairs.ensures.keys) ∙ length-map c.in_ok-pairs.pairs.groups.firsts.items (λ f. slice_index c.as_slice-4.result.now f)) in
    subst (λ (ls : List (Vec ℕ Global)). All (λ (l : Vec ℕ Global). All (λ x. x < length c.as_slice-11.result.now) l.items) ls) (sym c.as_slice-10.ensures.value)
    (subst (λ (n : ℕ). All (λ (l : Vec ℕ Global). All (λ x. x < n) l.items) c.in_ok-lists.lists.items) keys_size (dealt_range (λ (v : Vec ℕ Global). v.items) c.in_ok-lists.lists.items c.in_ok-pairs.pairs.buckets.items (length c.in_ok-pairs.pairs.groups.firsts.items) c.len-2.result c.in_ok-lists.ensures.lists))

pub rows_of_keys-requires-clause-columns : goal.rows_of_keys-requires-clause-columns
rows_of_keys-requires-clause-columns g c =
    let keys_size : length c.in_ok-pairs.pairs.groups.firsts.items ≡ length c.as_slice-11.result.now = sym (ap length (c.as_slice-11.ensures.value ∙ c.in_ok-pairs.ensures.keys) ∙ length-map c.in_ok-pairs.pairs.groups.firsts.items (λ f. slice_index c.as_slice-4.result.now f)) in
    let shown = c.in_ok-columns.ensures.answers ∙ ap (map (answers_of c.in_ok-pairs.pairs.groups.numbers.items (length c.in_ok-pairs.pairs.groups.firsts.items) (rows_in c.args.rows.now))) c.as_slice-5.ensures.items in
    subst (λ (cs : List (Vec Scalar Global)). All (λ (v : Vec Scalar Global). length v.items ≡ length c.as_slice-11.result.now) cs) (sym c.as_slice-12.ensures.value)
    (λ k d low. sym (length-map (get_or c.in_ok-columns.columns.items k d).items cell_of) ∙ columns_sized (λ (v : Vec Scalar Global). map cell_of v.items) c.in_ok-columns.columns.items c.in_ok-pairs.pairs.groups.numbers.items (length c.in_ok-pairs.pairs.groups.firsts.items) (rows_in c.args.rows.now) c.args.spec.now.group.aggs shown k d low ∙ keys_size)

pub rows_of_keys-requires-clause-fills : goal.rows_of_keys-requires-clause-fills
rows_of_keys-requires-clause-fills g c =
    let shown = c.in_ok-columns.ensures.answers ∙ ap (map (answers_of c.in_ok-pairs.pairs.groups.numbers.items (length c.in_ok-pairs.pairs.groups.firsts.items) (rows_in c.args.rows.now))) c.as_slice-5.ensures.items in
    let each = c.in_ok-fills.ensures.each c.args.spec.now.group.aggs (sym c.len-3.ensures.count) ∙ ap (λ (l : List Fill). each_fill l c.args.spec.now.group.aggs) c.as_slice-6.ensures.items in
    ap length c.as_slice-13.ensures.value
    ∙ fills_sized c.args.spec.now c.in_ok-fills.fills.items c.requires.fills each
    ∙ sym (ap length c.as_slice-12.ensures.value ∙ sym (length-map c.in_ok-columns.columns.items (λ (v : Vec Scalar Global). map cell_of v.items)) ∙ ap length shown ∙ length-map c.args.spec.now.group.aggs (answers_of c.in_ok-pairs.pairs.groups.numbers.items (length c.in_ok-pairs.pairs.groups.firsts.items) (rows_in c.args.rows.now)))

pub rows_of_keys-requires-clause-keys : goal.rows_of_keys-requires-clause-keys
rows_of_keys-requires-clause-keys g c =
    let whole = c.in_ok-starts.ensures.starts in
    let all = subst (AreStarts c.args.spec.now.stride c.args.align c.args.times.now) (sym whole) (starts_are c.args.spec.now c.args.align c.args.times.now c.requires.stride c.requires.times c.requires.some) in
    let known = known_from c.args.rows.now c.args.spec.now c.args.align c.args.times.now c.in_ok-starts.starts.items c.in_ok-buckets.buckets.items c.in_ok-keys.keys.numbers.items c.in_ok-keys.keys.firsts.items c.in_ok-pairs.pairs.groups.numbers.items c.in_ok-pairs.pairs.groups.firsts.items c.as_slice-2.result.now c.as_slice-3.result.now c.as_slice-4.result.now c.as_slice.result.now c.requires.stride c.requires.times c.requires.some c.requires.count all c.as_slice-2.ensures.value c.in_ok-buckets.ensures.numbers c.as_slice.ensures.items c.in_ok-keys.ensures.groups c.as_slice-3.ensures.value c.as_slice-4.ensures.value c.in_ok-pairs.ensures.groups in
    let keys_are = c.in_ok-pairs.ensures.keys ∙ ap (λ (l : List ℕ). map (λ f. slice_index l f) c.in_ok-pairs.pairs.groups.firsts.items) c.as_slice-4.ensures.value in
    subst (λ (l : List ℕ). All (λ k. k < length c.as_slice-8.result.now) l) (sym (c.as_slice-11.ensures.value ∙ keys_are))
    (subst (λ (l : List ℕ). All (λ k. k < length l) (map (λ f. slice_index c.in_ok-keys.keys.numbers.items f) c.in_ok-pairs.pairs.groups.firsts.items)) (sym c.as_slice-8.ensures.value) (keys_low c.args.rows.now c.args.spec.now c.args.align c.args.times.now c.in_ok-starts.starts.items c.in_ok-buckets.buckets.items c.in_ok-keys.keys.numbers.items c.in_ok-keys.keys.firsts.items c.in_ok-pairs.pairs.groups.numbers.items c.in_ok-pairs.pairs.groups.firsts.items known))

pub returns-clause-rows : goal.returns-clause-rows
returns-clause-rows g c =
    let whole = c.in_ok-starts.ensures.starts in
    let all = subst (AreStarts c.args.spec.now.stride c.args.align c.args.times.now) (sym whole) (starts_are c.args.spec.now c.args.align c.args.times.now c.requires.stride c.requires.times c.requires.some) in
    let known = known_from c.args.rows.now c.args.spec.now c.args.align c.args.times.now c.in_ok-starts.starts.items c.in_ok-buckets.buckets.items c.in_ok-keys.keys.numbers.items c.in_ok-keys.keys.firsts.items c.in_ok-pairs.pairs.groups.numbers.items c.in_ok-pairs.pairs.groups.firsts.items c.as_slice-2.result.now c.as_slice-3.result.now c.as_slice-4.result.now c.as_slice.result.now c.requires.stride c.requires.times c.requires.some c.requires.count all c.as_slice-2.ensures.value c.in_ok-buckets.ensures.numbers c.as_slice.ensures.items c.in_ok-keys.ensures.groups c.as_slice-3.ensures.value c.as_slice-4.ensures.value c.in_ok-pairs.ensures.groups in
    let buckets_are = c.in_ok-pairs.ensures.buckets ∙ ap (λ (l : List ℕ). map (λ f. slice_index l f) c.in_ok-pairs.pairs.groups.firsts.items) c.as_slice-3.ensures.value in
    let keys_are = c.in_ok-pairs.ensures.keys ∙ ap (λ (l : List ℕ). map (λ f. slice_index l f) c.in_ok-pairs.pairs.groups.firsts.items) c.as_slice-4.ensures.value in
    let all_starts : c.len-2.result ≡ length c.in_ok-starts.starts.items = omega (arith, c.len-2.ensures, c.in_ok-starts.starts.ok.0) in
    let shown = c.in_ok-columns.ensures.answers ∙ ap (map (answers_of c.in_ok-pairs.pairs.groups.numbers.items (length c.in_ok-pairs.pairs.groups.firsts.items) (rows_in c.args.rows.now))) c.as_slice-5.ensures.items in
    let each = c.in_ok-fills.ensures.each c.args.spec.now.group.aggs (sym c.len-3.ensures.count) ∙ ap (λ (l : List Fill). each_fill l c.args.spec.now.group.aggs) c.as_slice-6.ensures.items in
    let lists_are = ap (map (λ (v : Vec ℕ Global). v.items)) c.as_slice-10.ensures.value
    ∙ c.in_ok-lists.ensures.lists
    ∙ ap₂ (λ (bs : List ℕ) (n : ℕ). map (λ b. filter (λ x. eqb (slice_index bs x) b) (range_with_len 0 (length c.in_ok-pairs.pairs.groups.firsts.items))) (range_with_len 0 n)) buckets_are all_starts in
    λ time_col times_are. filled_made c.args.rows.now c.args.spec.now c.args.align c.args.times.now c.in_ok-starts.starts.items c.in_ok-buckets.buckets.items c.in_ok-keys.keys.numbers.items c.in_ok-keys.keys.firsts.items c.in_ok-pairs.pairs.groups.numbers.items c.in_ok-pairs.pairs.groups.firsts.items known (map (λ (v : Vec Scalar Global). map cell_of v.items) c.in_ok-columns.columns.items) shown c.as_slice-7.result.now c.as_slice-8.result.now c.as_slice-11.result.now c.as_slice-9.result.now (map (λ (v : Vec ℕ Global). v.items) c.as_slice-10.result.now) (map (λ (v : Vec Scalar Global). map cell_of v.items) c.as_slice-12.result.now) c.as_slice-7.ensures.items c.as_slice-8.ensures.value (c.as_slice-11.ensures.value ∙ keys_are) c.as_slice-9.ensures.value (ap (map (λ (v : Vec Scalar Global). map cell_of v.items)) c.as_slice-12.ensures.value) c.in_ok-made.made c.in_ok-fills.fills.items c.as_slice-13.result.now c.as_slice-13.ensures.value each c.requires.fills lists_are c.in_ok-made.ensures.rows whole time_col times_are

pub returns-clause-few : goal.returns-clause-few
returns-clause-few g c =
    let whole = c.in_ok-starts.ensures.starts in
    let all = subst (AreStarts c.args.spec.now.stride c.args.align c.args.times.now) (sym whole) (starts_are c.args.spec.now c.args.align c.args.times.now c.requires.stride c.requires.times c.requires.some) in
    let known = known_from c.args.rows.now c.args.spec.now c.args.align c.args.times.now c.in_ok-starts.starts.items c.in_ok-buckets.buckets.items c.in_ok-keys.keys.numbers.items c.in_ok-keys.keys.firsts.items c.in_ok-pairs.pairs.groups.numbers.items c.in_ok-pairs.pairs.groups.firsts.items c.as_slice-2.result.now c.as_slice-3.result.now c.as_slice-4.result.now c.as_slice.result.now c.requires.stride c.requires.times c.requires.some c.requires.count all c.as_slice-2.ensures.value c.in_ok-buckets.ensures.numbers c.as_slice.ensures.items c.in_ok-keys.ensures.groups c.as_slice-3.ensures.value c.as_slice-4.ensures.value c.in_ok-pairs.ensures.groups in
    let buckets_are = c.in_ok-pairs.ensures.buckets ∙ ap (λ (l : List ℕ). map (λ f. slice_index l f) c.in_ok-pairs.pairs.groups.firsts.items) c.as_slice-3.ensures.value in
    let keys_are = c.in_ok-pairs.ensures.keys ∙ ap (λ (l : List ℕ). map (λ f. slice_index l f) c.in_ok-pairs.pairs.groups.firsts.items) c.as_slice-4.ensures.value in
    let all_starts : c.len-2.result ≡ length c.in_ok-starts.starts.items = omega (arith, c.len-2.ensures, c.in_ok-starts.starts.ok.0) in
    let shown = c.in_ok-columns.ensures.answers ∙ ap (map (answers_of c.in_ok-pairs.pairs.groups.numbers.items (length c.in_ok-pairs.pairs.groups.firsts.items) (rows_in c.args.rows.now))) c.as_slice-5.ensures.items in
    let each = c.in_ok-fills.ensures.each c.args.spec.now.group.aggs (sym c.len-3.ensures.count) ∙ ap (λ (l : List Fill). each_fill l c.args.spec.now.group.aggs) c.as_slice-6.ensures.items in
    let lists_are = ap (map (λ (v : Vec ℕ Global). v.items)) c.as_slice-10.ensures.value
    ∙ c.in_ok-lists.ensures.lists
    ∙ ap₂ (λ (bs : List ℕ) (n : ℕ). map (λ b. filter (λ x. eqb (slice_index bs x) b) (range_with_len 0 (length c.in_ok-pairs.pairs.groups.firsts.items))) (range_with_len 0 n)) buckets_are all_starts in
    let keyed = subst (λ (l : List Bound). AreGroups (same_rows l c.args.rows.now) (length c.args.rows.now.places) c.in_ok-keys.keys.numbers.items c.in_ok-keys.keys.firsts.items) c.as_slice.ensures.items c.in_ok-keys.ensures.groups in
    let some : 0 < length c.in_ok-keys.keys.firsts.items = some_key (same_rows c.args.spec.now.group.keys c.args.rows.now) (length c.args.rows.now.places) c.in_ok-keys.keys.numbers.items c.in_ok-keys.keys.firsts.items keyed (omega (arith, c.requires.some, c.requires.count)) in
    let most_of : c.len.result ≡ length c.in_ok-keys.keys.firsts.items = omega (arith, c.len.ensures, c.in_ok-keys.keys.firsts.ok.0) in
    λ time_col times_are. omega (arith, ap length (filled_made c.args.rows.now c.args.spec.now c.args.align c.args.times.now c.in_ok-starts.starts.items c.in_ok-buckets.buckets.items c.in_ok-keys.keys.numbers.items c.in_ok-keys.keys.firsts.items c.in_ok-pairs.pairs.groups.numbers.items c.in_ok-pairs.pairs.groups.firsts.items known (map (λ (v : Vec Scalar Global). map cell_of v.items) c.in_ok-columns.columns.items) shown c.as_slice-7.result.now c.as_slice-8.result.now c.as_slice-11.result.now c.as_slice-9.result.now (map (λ (v : Vec ℕ Global). v.items) c.as_slice-10.result.now) (map (λ (v : Vec Scalar Global). map cell_of v.items) c.as_slice-12.result.now) c.as_slice-7.ensures.items c.as_slice-8.ensures.value (c.as_slice-11.ensures.value ∙ keys_are) c.as_slice-9.ensures.value (ap (map (λ (v : Vec Scalar Global). map cell_of v.items)) c.as_slice-12.ensures.value) c.in_ok-made.made c.in_ok-fills.fills.items c.as_slice-13.result.now c.as_slice-13.ensures.value each c.requires.fills lists_are c.in_ok-made.ensures.rows whole time_col times_are), few_rows c.args.rows.now c.args.spec.now c.args.align time_col (starts_of c.args.spec.now c.args.align c.args.times.now) c.in_ok-keys.keys.numbers.items c.in_ok-keys.keys.firsts.items (MAX_SAMPLED_ROWS / c.len.result) keyed some (ap (λ (n : ℕ). MAX_SAMPLED_ROWS / n) most_of) (omega (arith, c.in_ok-starts.ensures.few, ap length whole)))

pub returns-in_err-starts-clause-too_many : goal.returns-in_err-starts-clause-too_many
returns-in_err-starts-clause-too_many g c =
    let keyed = subst (λ (l : List Bound). AreGroups (same_rows l c.args.rows.now) (length c.args.rows.now.places) c.in_ok-keys.keys.numbers.items c.in_ok-keys.keys.firsts.items) c.as_slice.ensures.items c.in_ok-keys.ensures.groups in
    let some : 0 < length c.in_ok-keys.keys.firsts.items = some_key (same_rows c.args.spec.now.group.keys c.args.rows.now) (length c.args.rows.now.places) c.in_ok-keys.keys.numbers.items c.in_ok-keys.keys.firsts.items keyed (omega (arith, c.requires.some, c.requires.count)) in
    let most_of : c.len.result ≡ length c.in_ok-keys.keys.firsts.items = omega (arith, c.len.ensures, c.in_ok-keys.keys.firsts.ok.0) in
    let p = err_from_is_err_and c.from_residual-in_err-starts.result c.from_residual-in_err-starts.ensures.1 in
    λ failed time_col. many_rows c.args.rows.now c.args.spec.now c.args.align time_col (starts_of c.args.spec.now c.args.align c.args.times.now) c.in_ok-keys.keys.numbers.items c.in_ok-keys.keys.firsts.items (MAX_SAMPLED_ROWS / c.len.result) keyed some (ap (λ (n : ℕ). MAX_SAMPLED_ROWS / n) most_of) (c.starts_between.ensures.too_many (c.in_err-starts.was ∙ ap Err (sym p.2 ∙ same_fault p.0 TooMany c.from_residual-in_err-starts.result p.1 failed)))
