use Rattle.std.proofs.Common.{◌≡◌, ◌+◌, ◌-◌, ◌<◌, ◌≤◌, ◌∙◌, ℕ, List, ap, ap₂, arith, length, map, subst, sym, take}
use Rattle.std.specs.List.{zip}
use Rattle.std.specs.Prelude.{slice_range}
use Rattle.std.proofs.lemmas.Result.{IfOk-weaker}
use Rattle.qd_rows.specs.Sets.{rows_in}
use Rattle.qd_keys.specs.Keys.{same_keys, Tells}
use Rattle.qd_asof.proofs.JoinLemmas.{chosen_below, chosen_count, rows_joined}
use Rattle.qd_asof.proofs.TimeLemmas.{times_rise}
use Rattle.qd_asof.proofs.joined.asof.Goals as goal

pub taken_rows-requires-clause-left_order : goal.taken_rows-requires-clause-left_order
taken_rows-requires-clause-left_order g c = times_rise c.args.left_time (rows_in c.args.left.now) c.as_slice-3.result.now (c.as_slice-3.ensures.value ∙ c.in_ok-left_times.ensures.times) c.requires.left_order

pub taken_rows-requires-clause-right_order : goal.taken_rows-requires-clause-right_order
taken_rows-requires-clause-right_order g c = times_rise c.args.right_time (rows_in c.args.right.now) c.as_slice-4.result.now (c.as_slice-4.ensures.value ∙ c.in_ok-right_times.ensures.times) c.requires.right_order

pub beside-requires : goal.beside-requires
beside-requires g c =
    let left = c.args.left.now in
    let right = c.args.right.now in
    let ns : List ℕ = c.as_slice-numbers.result.now in
    let keys = ap₂ (λ (a b : List ℕ). zip a b) c.as_slice.ensures.items c.as_slice-2.ensures.items in
    let whole = subst (λ (l : List ℕ). Tells (same_keys (zip c.as_slice.result.now c.as_slice-2.result.now) (rows_in left) (rows_in right)) (length left.places + length right.places) c.in_ok-told.told.bound l) (sym c.as_slice-numbers.ensures.value) c.in_ok-told.ensures.tell in
    let told = subst (λ (ks : List (ℕ × ℕ)). Tells (same_keys ks (rows_in left) (rows_in right)) (length left.places + length right.places) c.in_ok-told.told.bound ns) keys whole in
    let left_times = c.as_slice-3.ensures.value ∙ c.in_ok-left_times.ensures.times in
    let right_times = c.as_slice-4.ensures.value ∙ c.in_ok-right_times.ensures.times in
    let few : c.len.result ≡ length c.args.left.now.places - 0 = omega (arith, c.len.ensures.count) in
    let left_is = ap (λ (k : ℕ). take k ns) few in
    let right_is = ap (λ (k : ℕ). slice_range ns k (length ns)) c.len-2.ensures.count in
    let are = c.as_slice-5.ensures.value ∙ c.in_ok-taken.ensures.choices in
    record {
      left_alone = c.requires.left_alone;
      right_alone = c.requires.right_alone;
      count = chosen_count c.args.spec.now c.args.left_time c.args.right_time left right c.in_ok-told.told.bound ns (take c.len.result ns) (slice_range ns c.len-2.result (length ns)) c.as_slice-3.result.now c.as_slice-4.result.now c.as_slice-5.result.now told left_is right_is left_times right_times are;
      there = chosen_below c.args.spec.now c.args.left_time c.args.right_time left right c.in_ok-told.told.bound ns (take c.len.result ns) (slice_range ns c.len-2.result (length ns)) c.as_slice-3.result.now c.as_slice-4.result.now c.as_slice-5.result.now told left_is right_is left_times right_times are;
    }

pub returns : goal.returns
returns g c =
    let left = c.args.left.now in
    let right = c.args.right.now in
    let ns : List ℕ = c.as_slice-numbers.result.now in
    let keys = ap₂ (λ (a b : List ℕ). zip a b) c.as_slice.ensures.items c.as_slice-2.ensures.items in
    let whole = subst (λ (l : List ℕ). Tells (same_keys (zip c.as_slice.result.now c.as_slice-2.result.now) (rows_in left) (rows_in right)) (length left.places + length right.places) c.in_ok-told.told.bound l) (sym c.as_slice-numbers.ensures.value) c.in_ok-told.ensures.tell in
    let told = subst (λ (ks : List (ℕ × ℕ)). Tells (same_keys ks (rows_in left) (rows_in right)) (length left.places + length right.places) c.in_ok-told.told.bound ns) keys whole in
    let left_times = c.as_slice-3.ensures.value ∙ c.in_ok-left_times.ensures.times in
    let right_times = c.as_slice-4.ensures.value ∙ c.in_ok-right_times.ensures.times in
    let few : c.len.result ≡ length c.args.left.now.places - 0 = omega (arith, c.len.ensures.count) in
    let left_is = ap (λ (k : ℕ). take k ns) few in
    let right_is = ap (λ (k : ℕ). slice_range ns k (length ns)) c.len-2.ensures.count in
    let are = c.as_slice-5.ensures.value ∙ c.in_ok-taken.ensures.choices in
    record {
      left = c.beside.ensures.left;
      right = c.beside.ensures.right;
      rows = IfOk-weaker c.beside.result _ _ (λ set h. h ∙ rows_joined c.args.spec.now c.args.left_time c.args.right_time left right c.in_ok-told.told.bound ns (take c.len.result ns) (slice_range ns c.len-2.result (length ns)) c.as_slice-3.result.now c.as_slice-4.result.now c.as_slice-5.result.now told left_is right_is left_times right_times are) c.beside.ensures.rows;
    }
