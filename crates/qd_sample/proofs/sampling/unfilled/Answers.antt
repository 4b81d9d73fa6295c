use Rattle.std.proofs.Common.{◌≡◌, ◌∙◌, ◌<◌, ◌≤◌, ℕ, List, ap, ap₂, eqb, filter, sym, subst, arith, length, map, get_or, slice_index, refl, All, Vec, Global}
use Rattle.std.specs.List.{range_with_len}
use Rattle.std.proofs.lemmas.List.{length-map}
use Rattle.qd_group.specs.Grouping.{answers_of, same_rows}
use Rattle.qd_rows.specs.Sets.{rows_in}
use Rattle.qd_value.specs.declared.scalars.Scalar.{Scalar}
use Rattle.qd_value.specs.Scalars.{cell_of}
use Rattle.qd_sample.specs.Cells.{by_key}
use Rattle.qd_sample.proofs.Handed.{both_sized, buckets_low, groups_low, groups_sized, heads_low, keys_low, known_from}
use Rattle.qd_sample.proofs.Made.{unfilled_made, unfilled_size}
use Rattle.qd_sample.proofs.Settings.{columns_sized, dealt_by_key, dealt_size, first_start, some_start}
use Rattle.qd_sample.proofs.Whole.{unfilled_count, unfilled_whole}
use Rattle.qd_sample.proofs.sampling.unfilled.Goals as goal

pub bucket_numbers-requires-clause-some : goal.bucket_numbers-requires-clause-some
bucket_numbers-requires-clause-some g c =
    subst (λ (l : List ℕ). 0 < length l) (sym c.as_slice.ensures.value) (some_start c.args.spec.now.stride c.args.align c.args.times.now c.in_ok-starts.starts.items c.in_ok-starts.ensures.starts c.requires.some)

pub bucket_numbers-requires-clause-first : goal.bucket_numbers-requires-clause-first
bucket_numbers-requires-clause-first g c = λ i low.
    subst (λ (l : List ℕ). get_or l 0 0 ≤ get_or c.args.times.now i 0) (sym c.as_slice.ensures.value) (first_start c.args.spec.now.stride c.args.align c.args.times.now c.in_ok-starts.starts.items c.requires.stride c.requires.times c.in_ok-starts.ensures.starts i low)

pub bucket_numbers-requires-clause-order : goal.bucket_numbers-requires-clause-order
bucket_numbers-requires-clause-order g c = c.requires.times.rise

pub paired-requires : goal.paired-requires
paired-requires g c =
    ap length c.as_slice-3.ensures.value
    ∙ both_sized c.args.times.now c.as_slice.result.now c.in_ok-buckets.buckets.items c.in_ok-keys.keys.numbers.items c.in_ok-keys.keys.firsts.items (length c.args.rows.now.places) (same_rows c.as_slice-2.result.now c.args.rows.now) c.requires.count c.in_ok-buckets.ensures.numbers c.in_ok-keys.ensures.groups
    ∙ ap length (sym c.as_slice-4.ensures.value)

pub in_key_order-requires-clause-count : goal.in_key_order-requires-clause-count
in_key_order-requires-clause-count g c =
    ap length c.in_ok-pairs.ensures.buckets ∙ length-map c.in_ok-pairs.pairs.groups.firsts.items (λ f. slice_index c.as_slice-3.result.now f)

pub in_key_order-requires-clause-keyed : goal.in_key_order-requires-clause-keyed
in_key_order-requires-clause-keyed g c =
    ap length c.in_ok-pairs.ensures.keys ∙ length-map c.in_ok-pairs.pairs.groups.firsts.items (λ f. slice_index c.as_slice-4.result.now f)

pub in_key_order-requires-clause-below : goal.in_key_order-requires-clause-below
in_key_order-requires-clause-below g c =
    let known = known_from c.args.rows.now c.args.spec.now c.args.align c.args.times.now c.in_ok-starts.starts.items c.in_ok-buckets.buckets.items c.in_ok-keys.keys.numbers.items c.in_ok-keys.keys.firsts.items c.in_ok-pairs.pairs.groups.numbers.items c.in_ok-pairs.pairs.groups.firsts.items c.as_slice.result.now c.as_slice-3.result.now c.as_slice-4.result.now c.as_slice-2.result.now c.requires.stride c.requires.times c.requires.some c.requires.count c.in_ok-starts.ensures.starts c.as_slice.ensures.value c.in_ok-buckets.ensures.numbers c.as_slice-2.ensures.items c.in_ok-keys.ensures.groups c.as_slice-3.ensures.value c.as_slice-4.ensures.value c.in_ok-pairs.ensures.groups in
    let buckets_are = c.in_ok-pairs.ensures.buckets ∙ ap (λ (l : List ℕ). map (λ f. slice_index l f) c.in_ok-pairs.pairs.groups.firsts.items) c.as_slice-3.ensures.value in
    let all_starts : c.len-2.result ≡ length c.in_ok-starts.starts.items = omega (arith, c.len-2.ensures, c.in_ok-starts.starts.ok.0) in
    subst (λ (n : ℕ). All (λ b. b < n) c.in_ok-pairs.pairs.buckets.items) (sym all_starts) (subst (λ (l : List ℕ). All (λ b. b < length c.in_ok-starts.starts.items) l) (sym buckets_are) (buckets_low c.args.rows.now c.args.spec.now c.args.align c.args.times.now c.in_ok-starts.starts.items c.in_ok-buckets.buckets.items c.in_ok-keys.keys.numbers.items c.in_ok-keys.keys.firsts.items c.in_ok-pairs.pairs.groups.numbers.items c.in_ok-pairs.pairs.groups.firsts.items known))

pub in_key_order-requires-clause-known : goal.in_key_order-requires-clause-known
in_key_order-requires-clause-known g c =
    let known = known_from c.args.rows.now c.args.spec.now c.args.align c.args.times.now c.in_ok-starts.starts.items c.in_ok-buckets.buckets.items c.in_ok-keys.keys.numbers.items c.in_ok-keys.keys.firsts.items c.in_ok-pairs.pairs.groups.numbers.items c.in_ok-pairs.pairs.groups.firsts.items c.as_slice.result.now c.as_slice-3.result.now c.as_slice-4.result.now c.as_slice-2.result.now c.requires.stride c.requires.times c.requires.some c.requires.count c.in_ok-starts.ensures.starts c.as_slice.ensures.value c.in_ok-buckets.ensures.numbers c.as_slice-2.ensures.items c.in_ok-keys.ensures.groups c.as_slice-3.ensures.value c.as_slice-4.ensures.value c.in_ok-pairs.ensures.groups in
    let keys_are = c.in_ok-pairs.ensures.keys ∙ ap (λ (l : List ℕ). map (λ f. slice_index l f) c.in_ok-pairs.pairs.groups.firsts.items) c.as_slice-4.ensures.value in
    let all_keys : c.len-3.result ≡ length c.in_ok-keys.keys.firsts.items = omega (arith, c.len-3.ensures, c.in_ok-keys.keys.firsts.ok.0) in
    subst (λ (n : ℕ). All (λ k. k < n) c.in_ok-pairs.pairs.keys.items) (sym all_keys) (subst (λ (l : List ℕ). All (λ k. k < length c.in_ok-keys.keys.firsts.items) l) (sym keys_are) (keys_low c.args.rows.now c.args.spec.now c.args.align c.args.times.now c.in_ok-starts.starts.items c.in_ok-buckets.buckets.items c.in_ok-keys.keys.numbers.items c.in_ok-keys.keys.firsts.items c.in_ok-pairs.pairs.groups.numbers.items c.in_ok-pairs.pairs.groups.firsts.items known))

pub columns_of-requires-clause-count : goal.columns_of-requires-clause-count
columns_of-requires-clause-count g c =
    let known = known_from c.args.rows.now c.args.spec.now c.args.align c.args.times.now c.in_ok-starts.starts.items c.in_ok-buckets.buckets.items c.in_ok-keys.keys.numbers.items c.in_ok-keys.keys.firsts.items c.in_ok-pairs.pairs.groups.numbers.items c.in_ok-pairs.pairs.groups.firsts.items c.as_slice.result.now c.as_slice-3.result.now c.as_slice-4.result.now c.as_slice-2.result.now c.requires.stride c.requires.times c.requires.some c.requires.count c.in_ok-starts.ensures.starts c.as_slice.ensures.value c.in_ok-buckets.ensures.numbers c.as_slice-2.ensures.items c.in_ok-keys.ensures.groups c.as_slice-3.ensures.value c.as_slice-4.ensures.value c.in_ok-pairs.ensures.groups in
    groups_sized c.args.rows.now c.args.spec.now c.args.align c.args.times.now c.in_ok-starts.starts.items c.in_ok-buckets.buckets.items c.in_ok-keys.keys.numbers.items c.in_ok-keys.keys.firsts.items c.in_ok-pairs.pairs.groups.numbers.items c.in_ok-pairs.pairs.groups.firsts.items known

pub columns_of-requires-clause-below : goal.columns_of-requires-clause-below
columns_of-requires-clause-below g c =
    let known = known_from c.args.rows.now c.args.spec.now c.args.align c.args.times.now c.in_ok-starts.starts.items c.in_ok-buckets.buckets.items c.in_ok-keys.keys.numbers.items c.in_ok-keys.keys.firsts.items c.in_ok-pairs.pairs.groups.numbers.items c.in_ok-pairs.pairs.groups.firsts.items c.as_slice.result.now c.as_slice-3.result.now c.as_slice-4.result.now c.as_slice-2.result.now c.requires.stride c.requires.times c.requires.some c.requires.count c.in_ok-starts.ensures.starts c.as_slice.ensures.value c.in_ok-buckets.ensures.numbers c.as_slice-2.ensures.items c.in_ok-keys.ensures.groups c.as_slice-3.ensures.value c.as_slice-4.ensures.value c.in_ok-pairs.ensures.groups in
    groups_low c.args.rows.now c.args.spec.now c.args.align c.args.times.now c.in_ok-starts.starts.items c.in_ok-buckets.buckets.items c.in_ok-keys.keys.numbers.items c.in_ok-keys.keys.firsts.items c.in_ok-pairs.pairs.groups.numbers.items c.in_ok-pairs.pairs.groups.firsts.items known

pub rows_of_groups-requires-clause-firsts : goal.rows_of_groups-requires-clause-firsts
rows_of_groups-requires-clause-firsts g c =
    let known = known_from c.args.rows.now c.args.spec.now c.args.align c.args.times.now c.in_ok-starts.starts.items c.in_ok-buckets.buckets.items c.in_ok-keys.keys.numbers.items c.in_ok-keys.keys.firsts.items c.in_ok-pairs.pairs.groups.numbers.items c.in_ok-pairs.pairs.groups.firsts.items c.as_slice.result.now c.as_slice-3.result.now c.as_slice-4.result.now c.as_slice-2.result.now c.requires.stride c.requires.times c.requires.some c.requires.count c.in_ok-starts.ensures.starts c.as_slice.ensures.value c.in_ok-buckets.ensures.numbers c.as_slice-2.ensures.items c.in_ok-keys.ensures.groups c.as_slice-3.ensures.value c.as_slice-4.ensures.value c.in_ok-pairs.ensures.groups in
    subst (λ (l : List ℕ). All (λ f. f < length c.args.rows.now.places) l) (sym c.as_slice-7.ensures.value) (heads_low c.args.rows.now c.args.spec.now c.args.align c.args.times.now c.in_ok-starts.starts.items c.in_ok-buckets.buckets.items c.in_ok-keys.keys.numbers.items c.in_ok-keys.keys.firsts.items c.in_ok-pairs.pairs.groups.numbers.items c.in_ok-pairs.pairs.groups.firsts.items known)

pub rows_of_groups-requires-clause-count : goal.rows_of_groups-requires-clause-count
rows_of_groups-requires-clause-count g c =
    let all_starts : c.len-2.result ≡ length c.in_ok-starts.starts.items = omega (arith, c.len-2.ensures, c.in_ok-starts.starts.ok.0) in
    ap length c.as_slice-9.ensures.value ∙ dealt_size (λ (v : Vec ℕ Global). v.items) c.in_ok-lists.lists.items _ c.len-2.result c.in_ok-lists.ensures.lists ∙ all_starts ∙ ap length (sym c.as_slice-8.ensures.value)

pub rows_of_groups-requires-clause-groups : goal.rows_of_groups-requires-clause-groups
rows_of_groups-requires-clause-groups g c =
    let keys_size : length c.in_ok-pairs.pairs.groups.firsts.items ≡ length c.as_slice-10.result.now = sym (ap length (c.as_slice-10.ensures.value ∙ c.in_ok-pairs.ensures.keys) ∙ length-map c.in_ok-pairs.pairs.groups.firsts.items (λ f. slice_index c.as_slice-4.result.now f)) in
    subst (λ (ls : List (Vec ℕ Global)). All (λ (l : Vec ℕ Global). All (λ x. x < length c.as_slice-10.result.now) l.items) ls) (sym c.as_slice-9.ensures.value)
    (subst (λ (n : ℕ). All (λ (l : Vec ℕ Global). All (λ x. x < n) l.items) c.in_ok-lists.lists.items) keys_size (dealt_by_key (λ (v : Vec ℕ Global). v.items) c.in_ok-lists.lists.items c.in_ok-pairs.pairs.buckets.items c.in_ok-pairs.pairs.keys.items (length c.in_ok-pairs.pairs.groups.firsts.items) c.len-3.result c.len-2.result c.in_ok-lists.ensures.lists))

pub rows_of_groups-requires-clause-columns : goal.rows_of_groups-requires-clause-columns
rows_of_groups-requires-clause-columns g c =
    let keys_size : length c.in_ok-pairs.pairs.groups.firsts.items ≡ length c.as_slice-10.result.now = sym (ap length (c.as_slice-10.ensures.value ∙ c.in_ok-pairs.ensures.keys) ∙ length-map c.in_ok-pairs.pairs.groups.firsts.items (λ f. slice_index c.as_slice-4.result.now f)) in
    let shown = c.in_ok-columns.ensures.answers ∙ ap (map (answers_of c.in_ok-pairs.pairs.groups.numbers.items (length c.in_ok-pairs.pairs.groups.firsts.items) (rows_in c.args.rows.now))) c.as_slice-5.ensures.items in
    subst (λ (cs : List (Vec Scalar Global)). All (λ (v : Vec Scalar Global). length v.items ≡ length c.as_slice-10.result.now) cs) (sym c.as_slice-11.ensures.value)
    (λ k d low. sym (length-map (get_or c.in_ok-columns.columns.items k d).items cell_of) ∙ columns_sized (λ (v : Vec Scalar Global). map cell_of v.items) c.in_ok-columns.columns.items c.in_ok-pairs.pairs.groups.numbers.items (length c.in_ok-pairs.pairs.groups.firsts.items) (rows_in c.args.rows.now) c.args.spec.now.group.aggs shown k d low ∙ keys_size)

pub rows_of_groups-requires-clause-keys : goal.rows_of_groups-requires-clause-keys
rows_of_groups-requires-clause-keys g c =
    let known = known_from c.args.rows.now c.args.spec.now c.args.align c.args.times.now c.in_ok-starts.starts.items c.in_ok-buckets.buckets.items c.in_ok-keys.keys.numbers.items c.in_ok-keys.keys.firsts.items c.in_ok-pairs.pairs.groups.numbers.items c.in_ok-pairs.pairs.groups.firsts.items c.as_slice.result.now c.as_slice-3.result.now c.as_slice-4.result.now c.as_slice-2.result.now c.requires.stride c.requires.times c.requires.some c.requires.count c.in_ok-starts.ensures.starts c.as_slice.ensures.value c.in_ok-buckets.ensures.numbers c.as_slice-2.ensures.items c.in_ok-keys.ensures.groups c.as_slice-3.ensures.value c.as_slice-4.ensures.value c.in_ok-pairs.ensures.groups in
    let keys_are = c.in_ok-pairs.ensures.keys ∙ ap (λ (l : List ℕ). map (λ f. slice_index l f) c.in_ok-pairs.pairs.groups.firsts.items) c.as_slice-4.ensures.value in
    subst (λ (l : List ℕ). All (λ k. k < length c.as_slice-7.result.now) l) (sym (c.as_slice-10.ensures.value ∙ keys_are))
    (subst (λ (l : List ℕ). All (λ k. k < length l) (map (λ f. slice_index c.in_ok-keys.keys.numbers.items f) c.in_ok-pairs.pairs.groups.firsts.items)) (sym c.as_slice-7.ensures.value) (keys_low c.args.rows.now c.args.spec.now c.args.align c.args.times.now c.in_ok-starts.starts.items c.in_ok-buckets.buckets.items c.in_ok-keys.keys.numbers.items c.in_ok-keys.keys.firsts.items c.in_ok-pairs.pairs.groups.numbers.items c.in_ok-pairs.pairs.groups.firsts.items known))

pub returns-clause-rows : goal.returns-clause-rows
returns-clause-rows g c =
    let known = known_from c.args.rows.now c.args.spec.now c.args.align c.args.times.now c.in_ok-starts.starts.items c.in_ok-buckets.buckets.items c.in_ok-keys.keys.numbers.items c.in_ok-keys.keys.firsts.items c.in_ok-pairs.pairs.groups.numbers.items c.in_ok-pairs.pairs.groups.firsts.items c.as_slice.result.now c.as_slice-3.result.now c.as_slice-4.result.now c.as_slice-2.result.now c.requires.stride c.requires.times c.requires.some c.requires.count c.in_ok-starts.ensures.starts c.as_slice.ensures.value c.in_ok-buckets.ensures.numbers c.as_slice-2.ensures.items c.in_ok-keys.ensures.groups c.as_slice-3.ensures.value c.as_slice-4.ensures.value c.in_ok-pairs.ensures.groups in
    let buckets_are = c.in_ok-pairs.ensures.buckets ∙ ap (λ (l : List ℕ). map (λ f. slice_index l f) c.in_ok-pairs.pairs.groups.firsts.items) c.as_slice-3.ensures.value in
    let keys_are = c.in_ok-pairs.ensures.keys ∙ ap (λ (l : List ℕ). map (λ f. slice_index l f) c.in_ok-pairs.pairs.groups.firsts.items) c.as_slice-4.ensures.value in
    let all_starts : c.len-2.result ≡ length c.in_ok-starts.starts.items = omega (arith, c.len-2.ensures, c.in_ok-starts.starts.ok.0) in
    let all_keys : c.len-3.result ≡ length c.in_ok-keys.keys.firsts.items = omega (arith, c.len-3.ensures, c.in_ok-keys.keys.firsts.ok.0) in
    let shown = c.in_ok-columns.ensures.answers ∙ ap (map (answers_of c.in_ok-pairs.pairs.groups.numbers.items (length c.in_ok-pairs.pairs.groups.firsts.items) (rows_in c.args.rows.now))) c.as_slice-5.ensures.items in
    let lists_are = ap (map (λ (v : Vec ℕ Global). v.items)) c.as_slice-9.ensures.value
    ∙ c.in_ok-lists.ensures.lists
    ∙ ap₂ (λ (bs ks : List ℕ). map (λ b. filter (λ x. eqb (slice_index bs x) b) (by_key ks (length c.in_ok-pairs.pairs.groups.firsts.items) c.len-3.result)) (range_with_len 0 c.len-2.result)) buckets_are keys_are
    ∙ ap₂ (λ (ks bs : ℕ). map (λ b. filter (λ x. eqb (slice_index (map (λ f. slice_index c.in_ok-buckets.buckets.items f) c.in_ok-pairs.pairs.groups.firsts.items) x) b) (by_key (map (λ f. slice_index c.in_ok-keys.keys.numbers.items f) c.in_ok-pairs.pairs.groups.firsts.items) (length c.in_ok-pairs.pairs.groups.firsts.items) ks)) (range_with_len 0 bs)) all_keys all_starts in
    λ time_col times_are. unfilled_made c.args.rows.now c.args.spec.now c.args.align c.args.times.now c.in_ok-starts.starts.items c.in_ok-buckets.buckets.items c.in_ok-keys.keys.numbers.items c.in_ok-keys.keys.firsts.items c.in_ok-pairs.pairs.groups.numbers.items c.in_ok-pairs.pairs.groups.firsts.items known (map (λ (v : Vec Scalar Global). map cell_of v.items) c.in_ok-columns.columns.items) shown c.as_slice-6.result.now c.as_slice-7.result.now c.as_slice-10.result.now c.as_slice-8.result.now (map (λ (v : Vec ℕ Global). v.items) c.as_slice-9.result.now) (map (λ (v : Vec Scalar Global). map cell_of v.items) c.as_slice-11.result.now) c.as_slice-6.ensures.items c.as_slice-7.ensures.value (c.as_slice-10.ensures.value ∙ keys_are) c.as_slice-8.ensures.value (ap (map (λ (v : Vec Scalar Global). map cell_of v.items)) c.as_slice-11.ensures.value) c.in_ok-made.made lists_are c.in_ok-made.ensures.rows c.in_ok-starts.ensures.rows time_col times_are

pub returns-clause-few : goal.returns-clause-few
returns-clause-few g c =
    let known = known_from c.args.rows.now c.args.spec.now c.args.align c.args.times.now c.in_ok-starts.starts.items c.in_ok-buckets.buckets.items c.in_ok-keys.keys.numbers.items c.in_ok-keys.keys.firsts.items c.in_ok-pairs.pairs.groups.numbers.items c.in_ok-pairs.pairs.groups.firsts.items c.as_slice.result.now c.as_slice-3.result.now c.as_slice-4.result.now c.as_slice-2.result.now c.requires.stride c.requires.times c.requires.some c.requires.count c.in_ok-starts.ensures.starts c.as_slice.ensures.value c.in_ok-buckets.ensures.numbers c.as_slice-2.ensures.items c.in_ok-keys.ensures.groups c.as_slice-3.ensures.value c.as_slice-4.ensures.value c.in_ok-pairs.ensures.groups in
    let buckets_are = c.in_ok-pairs.ensures.buckets ∙ ap (λ (l : List ℕ). map (λ f. slice_index l f) c.in_ok-pairs.pairs.groups.firsts.items) c.as_slice-3.ensures.value in
    let keys_are = c.in_ok-pairs.ensures.keys ∙ ap (λ (l : List ℕ). map (λ f. slice_index l f) c.in_ok-pairs.pairs.groups.firsts.items) c.as_slice-4.ensures.value in
    let all_starts : c.len-2.result ≡ length c.in_ok-starts.starts.items = omega (arith, c.len-2.ensures, c.in_ok-starts.starts.ok.0) in
    let all_keys : c.len-3.result ≡ length c.in_ok-keys.keys.firsts.items = omega (arith, c.len-3.ensures, c.in_ok-keys.keys.firsts.ok.0) in
    let shown = c.in_ok-columns.ensures.answers ∙ ap (map (answers_of c.in_ok-pairs.pairs.groups.numbers.items (length c.in_ok-pairs.pairs.groups.firsts.items) (rows_in c.args.rows.now))) c.as_slice-5.ensures.items in
    let lists_are = ap (map (λ (v : Vec ℕ Global). v.items)) c.as_slice-9.ensures.value
    ∙ c.in_ok-lists.ensures.lists
    ∙ ap₂ (λ (bs ks : List ℕ). map (λ b. filter (λ x. eqb (slice_index bs x) b) (by_key ks (length c.in_ok-pairs.pairs.groups.firsts.items) c.len-3.result)) (range_with_len 0 c.len-2.result)) buckets_are keys_are
    ∙ ap₂ (λ (ks bs : ℕ). map (λ b. filter (λ x. eqb (slice_index (map (λ f. slice_index c.in_ok-buckets.buckets.items f) c.in_ok-pairs.pairs.groups.firsts.items) x) b) (by_key (map (λ f. slice_index c.in_ok-keys.keys.numbers.items f) c.in_ok-pairs.pairs.groups.firsts.items) (length c.in_ok-pairs.pairs.groups.firsts.items) ks)) (range_with_len 0 bs)) all_keys all_starts in
    λ time_col times_are. omega (arith, unfilled_size c.args.rows.now c.args.spec.now c.args.align c.args.times.now c.in_ok-starts.starts.items c.in_ok-buckets.buckets.items c.in_ok-keys.keys.numbers.items c.in_ok-keys.keys.firsts.items c.in_ok-pairs.pairs.groups.numbers.items c.in_ok-pairs.pairs.groups.firsts.items known (map (λ (v : Vec Scalar Global). map cell_of v.items) c.in_ok-columns.columns.items) shown c.as_slice-6.result.now c.as_slice-7.result.now c.as_slice-10.result.now c.as_slice-8.result.now (map (λ (v : Vec ℕ Global). v.items) c.as_slice-9.result.now) (map (λ (v : Vec Scalar Global). map cell_of v.items) c.as_slice-11.result.now) c.as_slice-6.ensures.items c.as_slice-7.ensures.value (c.as_slice-10.ensures.value ∙ keys_are) c.as_slice-8.ensures.value (ap (map (λ (v : Vec Scalar Global). map cell_of v.items)) c.as_slice-11.ensures.value) c.in_ok-made.made lists_are c.in_ok-made.ensures.rows time_col times_are, c.if-len-gt-MAX_SAMPLED_ROWS.false, c.len.ensures, c.in_ok-pairs.pairs.groups.firsts.ok.0)

pub returns-then-len-gt-MAX_SAMPLED_ROWS-clause-too_many : goal.returns-then-len-gt-MAX_SAMPLED_ROWS-clause-too_many
returns-then-len-gt-MAX_SAMPLED_ROWS-clause-too_many g c =
    let known = known_from c.args.rows.now c.args.spec.now c.args.align c.args.times.now c.in_ok-starts.starts.items c.in_ok-buckets.buckets.items c.in_ok-keys.keys.numbers.items c.in_ok-keys.keys.firsts.items c.in_ok-pairs.pairs.groups.numbers.items c.in_ok-pairs.pairs.groups.firsts.items c.as_slice.result.now c.as_slice-3.result.now c.as_slice-4.result.now c.as_slice-2.result.now c.requires.stride c.requires.times c.requires.some c.requires.count c.in_ok-starts.ensures.starts c.as_slice.ensures.value c.in_ok-buckets.ensures.numbers c.as_slice-2.ensures.items c.in_ok-keys.ensures.groups c.as_slice-3.ensures.value c.as_slice-4.ensures.value c.in_ok-pairs.ensures.groups in
    λ failed time_col times_are.
    omega (
      arith,
      c.if-len-gt-MAX_SAMPLED_ROWS.true,
      c.len.ensures,
      c.in_ok-pairs.pairs.groups.firsts.ok.0,
      ap length (unfilled_whole c.args.rows.now c.args.spec.now c.args.align c.args.times.now c.in_ok-starts.starts.items c.in_ok-buckets.buckets.items c.in_ok-keys.keys.numbers.items c.in_ok-keys.keys.firsts.items c.in_ok-pairs.pairs.groups.numbers.items c.in_ok-pairs.pairs.groups.firsts.items known (map (answers_of c.in_ok-pairs.pairs.groups.numbers.items (length c.in_ok-pairs.pairs.groups.firsts.items) (rows_in c.args.rows.now)) c.args.spec.now.group.aggs) refl c.in_ok-starts.ensures.rows time_col times_are),
      unfilled_count c.args.rows.now c.args.spec.now c.args.align c.args.times.now c.in_ok-starts.starts.items c.in_ok-buckets.buckets.items c.in_ok-keys.keys.numbers.items c.in_ok-keys.keys.firsts.items c.in_ok-pairs.pairs.groups.numbers.items c.in_ok-pairs.pairs.groups.firsts.items known (map (answers_of c.in_ok-pairs.pairs.groups.numbers.items (length c.in_ok-pairs.pairs.groups.firsts.items) (rows_in c.args.rows.now)) c.args.spec.now.group.aggs) refl time_col times_are,
    )
