use Rattle.std.proofs.Common.{◌≡◌, ◌∙◌, ◌<◌, ℕ, List, true, false, ap, arith, sym, subst, length, map, get_or}
use Rattle.std.specs.Prelude.{IfOk}
use Rattle.std.proofs.lemmas.Bool.{eqb-false}
use Rattle.std.proofs.lemmas.List.{get_or_read, length-map}
use Rattle.qd_base.specs.declared.limits.TheConstants.{MAX_SAMPLED_ROWS}
use Rattle.qd_base.specs.Rows.{Row, time_of}
use Rattle.qd_group.proofs.Assembly.{length_rows}
use Rattle.qd_meaning.specs.Sampled.{skips}
use Rattle.qd_rows.specs.Sets.{ResultRows, rows_in}
use Rattle.qd_sample.proofs.Sampled.{filled_sampled, in_order, is_align, sized, unfilled_sampled}
use Rattle.qd_sample.proofs.sampling.sample.Goals as goal

-- the first time, as it was read
first_read : (col : ℕ) (s : ResultRows) (times lent : List ℕ) (first : ℕ) → 0 < length s.places → times ≡ map (time_of col) (rows_in s) → lent ≡ times → first ≡ get_or times 0 first → first ≡ get_or lent 0 0
first_read col s times lent first some is same read =
    get_or_read times 0 first (omega (arith, some, ap length is, length-map (rows_in s) (time_of col), length_rows s)) read 0
    ∙ ap (λ (l : List ℕ). get_or l 0 0) (sym same)

pub unfilled-requires-clause-align : goal.unfilled-requires-clause-align
unfilled-requires-clause-align g c =
    let some : 0 < length c.args.rows.now.places = omega (arith, eqb-false (length c.args.rows.now.places) 0 (sym c.if-is_empty.ensures.empty)) in
    let is = c.as_slice-then-skips.ensures.value ∙ c.in_ok-times.ensures.times in
    let first = first_read c.args.time_col c.args.rows.now c.in_ok-times.times.items c.as_slice-then-skips.result.now c.index.result.now some c.in_ok-times.ensures.times c.as_slice-then-skips.ensures.value c.index.ensures in
    is_align c.args.spec.now c.args.time_col c.args.rows.now c.as_slice-then-skips.result.now c.align_of-align.result c.index.result.now some is first c.align_of-align.ensures c.requires.order c.requires.high c.requires.offset

pub unfilled-requires-clause-times : goal.unfilled-requires-clause-times
unfilled-requires-clause-times g c =
    let some : 0 < length c.args.rows.now.places = omega (arith, eqb-false (length c.args.rows.now.places) 0 (sym c.if-is_empty.ensures.empty)) in
    let is = c.as_slice-then-skips.ensures.value ∙ c.in_ok-times.ensures.times in
    let first = first_read c.args.time_col c.args.rows.now c.in_ok-times.times.items c.as_slice-then-skips.result.now c.index.result.now some c.in_ok-times.ensures.times c.as_slice-then-skips.ensures.value c.index.ensures in
    in_order c.args.spec.now c.args.time_col c.args.rows.now c.as_slice-then-skips.result.now c.align_of-align.result c.index.result.now some is first c.align_of-align.ensures c.requires.order c.requires.high

pub unfilled-requires-clause-some : goal.unfilled-requires-clause-some
unfilled-requires-clause-some g c =
    let some : 0 < length c.args.rows.now.places = omega (arith, eqb-false (length c.args.rows.now.places) 0 (sym c.if-is_empty.ensures.empty)) in
    let is = c.as_slice-then-skips.ensures.value ∙ c.in_ok-times.ensures.times in
    let first = first_read c.args.time_col c.args.rows.now c.in_ok-times.times.items c.as_slice-then-skips.result.now c.index.result.now some c.in_ok-times.ensures.times c.as_slice-then-skips.ensures.value c.index.ensures in
    omega (arith, some, sized c.args.spec.now c.args.time_col c.args.rows.now c.as_slice-then-skips.result.now c.align_of-align.result c.index.result.now some is first c.align_of-align.ensures)

pub unfilled-requires-clause-count : goal.unfilled-requires-clause-count
unfilled-requires-clause-count g c =
    let some : 0 < length c.args.rows.now.places = omega (arith, eqb-false (length c.args.rows.now.places) 0 (sym c.if-is_empty.ensures.empty)) in
    let is = c.as_slice-then-skips.ensures.value ∙ c.in_ok-times.ensures.times in
    let first = first_read c.args.time_col c.args.rows.now c.in_ok-times.times.items c.as_slice-then-skips.result.now c.index.result.now some c.in_ok-times.ensures.times c.as_slice-then-skips.ensures.value c.index.ensures in
    sized c.args.spec.now c.args.time_col c.args.rows.now c.as_slice-then-skips.result.now c.align_of-align.result c.index.result.now some is first c.align_of-align.ensures

pub filled-requires-clause-align : goal.filled-requires-clause-align
filled-requires-clause-align g c =
    let some : 0 < length c.args.rows.now.places = omega (arith, eqb-false (length c.args.rows.now.places) 0 (sym c.if-is_empty.ensures.empty)) in
    let is = c.as_slice-else-skips.ensures.value ∙ c.in_ok-times.ensures.times in
    let first = first_read c.args.time_col c.args.rows.now c.in_ok-times.times.items c.as_slice-else-skips.result.now c.index.result.now some c.in_ok-times.ensures.times c.as_slice-else-skips.ensures.value c.index.ensures in
    is_align c.args.spec.now c.args.time_col c.args.rows.now c.as_slice-else-skips.result.now c.align_of-align.result c.index.result.now some is first c.align_of-align.ensures c.requires.order c.requires.high c.requires.offset

pub filled-requires-clause-times : goal.filled-requires-clause-times
filled-requires-clause-times g c =
    let some : 0 < length c.args.rows.now.places = omega (arith, eqb-false (length c.args.rows.now.places) 0 (sym c.if-is_empty.ensures.empty)) in
    let is = c.as_slice-else-skips.ensures.value ∙ c.in_ok-times.ensures.times in
    let first = first_read c.args.time_col c.args.rows.now c.in_ok-times.times.items c.as_slice-else-skips.result.now c.index.result.now some c.in_ok-times.ensures.times c.as_slice-else-skips.ensures.value c.index.ensures in
    in_order c.args.spec.now c.args.time_col c.args.rows.now c.as_slice-else-skips.result.now c.align_of-align.result c.index.result.now some is first c.align_of-align.ensures c.requires.order c.requires.high

pub filled-requires-clause-some : goal.filled-requires-clause-some
filled-requires-clause-some g c =
    let some : 0 < length c.args.rows.now.places = omega (arith, eqb-false (length c.args.rows.now.places) 0 (sym c.if-is_empty.ensures.empty)) in
    let is = c.as_slice-else-skips.ensures.value ∙ c.in_ok-times.ensures.times in
    let first = first_read c.args.time_col c.args.rows.now c.in_ok-times.times.items c.as_slice-else-skips.result.now c.index.result.now some c.in_ok-times.ensures.times c.as_slice-else-skips.ensures.value c.index.ensures in
    omega (arith, some, sized c.args.spec.now c.args.time_col c.args.rows.now c.as_slice-else-skips.result.now c.align_of-align.result c.index.result.now some is first c.align_of-align.ensures)

pub filled-requires-clause-count : goal.filled-requires-clause-count
filled-requires-clause-count g c =
    let some : 0 < length c.args.rows.now.places = omega (arith, eqb-false (length c.args.rows.now.places) 0 (sym c.if-is_empty.ensures.empty)) in
    let is = c.as_slice-else-skips.ensures.value ∙ c.in_ok-times.ensures.times in
    let first = first_read c.args.time_col c.args.rows.now c.in_ok-times.times.items c.as_slice-else-skips.result.now c.index.result.now some c.in_ok-times.ensures.times c.as_slice-else-skips.ensures.value c.index.ensures in
    sized c.args.spec.now c.args.time_col c.args.rows.now c.as_slice-else-skips.result.now c.align_of-align.result c.index.result.now some is first c.align_of-align.ensures

pub returns-then-skips-clause-rows : goal.returns-then-skips-clause-rows
returns-then-skips-clause-rows g c =
    let some : 0 < length c.args.rows.now.places = omega (arith, eqb-false (length c.args.rows.now.places) 0 (sym c.if-is_empty.ensures.empty)) in
    let is = c.as_slice-then-skips.ensures.value ∙ c.in_ok-times.ensures.times in
    let first = first_read c.args.time_col c.args.rows.now c.in_ok-times.times.items c.as_slice-then-skips.result.now c.index.result.now some c.in_ok-times.ensures.times c.as_slice-then-skips.ensures.value c.index.ensures in
    let skip : skips c.args.spec.now.fills ≡ true = ap skips (sym c.as_slice.ensures.items) ∙ sym c.skips.ensures ∙ c.if-skips.true in
    subst (λ (whole : List Row). IfOk c.unfilled.result (λ made. made ≡ whole)) (sym (unfilled_sampled c.args.spec.now c.args.time_col c.args.rows.now c.as_slice-then-skips.result.now c.align_of-align.result c.index.result.now some is first c.align_of-align.ensures skip)) (c.unfilled.ensures.rows c.args.time_col is)

pub returns-then-skips-clause-few : goal.returns-then-skips-clause-few
returns-then-skips-clause-few g c =
    c.unfilled.ensures.few c.args.time_col (c.as_slice-then-skips.ensures.value ∙ c.in_ok-times.ensures.times)

pub returns-then-skips-clause-too_many : goal.returns-then-skips-clause-too_many
returns-then-skips-clause-too_many g c =
    let some : 0 < length c.args.rows.now.places = omega (arith, eqb-false (length c.args.rows.now.places) 0 (sym c.if-is_empty.ensures.empty)) in
    let is = c.as_slice-then-skips.ensures.value ∙ c.in_ok-times.ensures.times in
    let first = first_read c.args.time_col c.args.rows.now c.in_ok-times.times.items c.as_slice-then-skips.result.now c.index.result.now some c.in_ok-times.ensures.times c.as_slice-then-skips.ensures.value c.index.ensures in
    let skip : skips c.args.spec.now.fills ≡ true = ap skips (sym c.as_slice.ensures.items) ∙ sym c.skips.ensures ∙ c.if-skips.true in
    λ failed. subst (λ (whole : List Row). MAX_SAMPLED_ROWS < length whole) (sym (unfilled_sampled c.args.spec.now c.args.time_col c.args.rows.now c.as_slice-then-skips.result.now c.align_of-align.result c.index.result.now some is first c.align_of-align.ensures skip)) (c.unfilled.ensures.too_many failed c.args.time_col is)

pub returns-clause-rows : goal.returns-clause-rows
returns-clause-rows g c =
    let some : 0 < length c.args.rows.now.places = omega (arith, eqb-false (length c.args.rows.now.places) 0 (sym c.if-is_empty.ensures.empty)) in
    let is = c.as_slice-else-skips.ensures.value ∙ c.in_ok-times.ensures.times in
    let first = first_read c.args.time_col c.args.rows.now c.in_ok-times.times.items c.as_slice-else-skips.result.now c.index.result.now some c.in_ok-times.ensures.times c.as_slice-else-skips.ensures.value c.index.ensures in
    let skip : skips c.args.spec.now.fills ≡ false = ap skips (sym c.as_slice.ensures.items) ∙ sym c.skips.ensures ∙ c.if-skips.false in
    subst (λ (whole : List Row). IfOk c.filled.result (λ made. made ≡ whole)) (sym (filled_sampled c.args.spec.now c.args.time_col c.args.rows.now c.as_slice-else-skips.result.now c.align_of-align.result c.index.result.now some is first c.align_of-align.ensures skip)) (c.filled.ensures.rows c.args.time_col is)

pub returns-clause-few : goal.returns-clause-few
returns-clause-few g c =
    c.filled.ensures.few c.args.time_col (c.as_slice-else-skips.ensures.value ∙ c.in_ok-times.ensures.times)

pub returns-clause-too_many : goal.returns-clause-too_many
returns-clause-too_many g c =
    let some : 0 < length c.args.rows.now.places = omega (arith, eqb-false (length c.args.rows.now.places) 0 (sym c.if-is_empty.ensures.empty)) in
    let is = c.as_slice-else-skips.ensures.value ∙ c.in_ok-times.ensures.times in
    let first = first_read c.args.time_col c.args.rows.now c.in_ok-times.times.items c.as_slice-else-skips.result.now c.index.result.now some c.in_ok-times.ensures.times c.as_slice-else-skips.ensures.value c.index.ensures in
    let skip : skips c.args.spec.now.fills ≡ false = ap skips (sym c.as_slice.ensures.items) ∙ sym c.skips.ensures ∙ c.if-skips.false in
    λ failed. subst (λ (whole : List Row). MAX_SAMPLED_ROWS < length whole) (sym (filled_sampled c.args.spec.now c.args.time_col c.args.rows.now c.as_slice-else-skips.result.now c.align_of-align.result c.index.result.now some is first c.align_of-align.ensures skip)) (c.filled.ensures.too_many failed c.args.time_col)
