use Rattle.std.proofs.Common.{◌≡◌, ◌∙◌, ◌+◌, ◌-◌, ◌<◌, ℕ, None, refl, ap, sym, subst, arith, length, map, get_or, set}
use Rattle.std.specs.Prelude.{pos}
use Rattle.std.proofs.lemmas.List.{get_or_default, length-map}
use Rattle.qd_expr.proofs.CellLemmas.{run_placed}
use Rattle.qd_rows.specs.Sets.{row_of_place, rows_in}
use Rattle.qd_value.specs.Scalars.{cell_of}
use Rattle.qd_group.specs.Kept.{AreKept}
use Rattle.qd_group.specs.Tallies.{argument, counted, next}
use Rattle.qd_group.proofs.Assembly.{length_rows}
use Rattle.qd_group.proofs.GroupTallies.{kept_next, kept_size}
use Rattle.qd_group.proofs.by_groups.add_rows.Goals as goal

pub argument-value-requires : goal.argument-value-requires
argument-value-requires g c = run_placed c.args.rows.now c.args.run c.loop-i.i c.requires.there (omega arith) (omega arith)

pub loop-i-init : goal.loop-i-init
loop-i-init g c =
    let e : c.args.run.before ≡ c.args.run.before + (c.args.run.from - c.args.run.from) = omega arith in
    subst (λ (k : ℕ). AreKept c.args.agg.now c.args.groups.now.numbers.items (rows_in c.args.rows.now) k (length c.args.groups.now.firsts.items) (map g.K.Keeping.state c.args.tallies.now.items)) e c.requires.before

pub add_value-requires : goal.add_value-requires
add_value-requires g c =
    let ns = c.args.groups.now.numbers.items in
    let j : ℕ = c.args.run.before + (c.loop-i.i - c.args.run.from) in
    let low : c.args.run.before + (c.loop-i.i - c.args.run.from) < length c.args.groups.now.numbers.items = omega (arith, c.requires.inside, c.requires.count) in
    let within : get_or c.args.groups.now.numbers.items (c.args.run.before + (c.loop-i.i - c.args.run.from)) 0 < length c.args.groups.now.firsts.items = c.requires.below j 0 low in
    let size : length c.loop-i.tallies.items ≡ length c.args.groups.now.firsts.items = sym (length-map c.loop-i.tallies.items g.K.Keeping.state) ∙ kept_size c.args.agg.now ns (rows_in c.args.rows.now) j (length c.args.groups.now.firsts.items) (map g.K.Keeping.state c.loop-i.tallies.items) c.loop-i.invariant in
    let number_is : c.index-number.result.now ≡ get_or c.args.groups.now.numbers.items (c.args.run.before + (c.loop-i.i - c.args.run.from)) 0 = c.index-number.ensures ∙ get_or_default ns j c.index-number.result.now 0 low in
    λ k. ((refl, tt), omega (arith, within, size, number_is))

pub loop-i-preserved : goal.loop-i-preserved
loop-i-preserved g c =
    let s = c.args.rows.now in
    let r = c.args.run in
    let ns = c.args.groups.now.numbers.items in
    let groups : ℕ = length c.args.groups.now.firsts.items in
    let k : ℕ = c.loop-i.i - c.args.run.from in
    let j : ℕ = c.args.run.before + (c.loop-i.i - c.args.run.from) in
    let states = map g.K.Keeping.state c.loop-i.tallies.items in
    let inside : c.loop-i.i - c.args.run.from < c.args.run.to - c.args.run.from = omega arith in
    let low : c.args.run.before + (c.loop-i.i - c.args.run.from) < length c.args.groups.now.numbers.items = omega (arith, c.requires.inside, c.requires.count) in
    let there : c.args.run.before + (c.loop-i.i - c.args.run.from) < length (rows_in c.args.rows.now) = omega (arith, c.requires.inside, length_rows c.args.rows.now) in
    let place : c.loop-i.i ≡ c.args.run.from + (c.loop-i.i - c.args.run.from) = omega arith in
    let number_is : c.index-number.result.now ≡ get_or c.args.groups.now.numbers.items (c.args.run.before + (c.loop-i.i - c.args.run.from)) 0 = c.index-number.ensures ∙ get_or_default ns j c.index-number.result.now 0 low in
    let next_is : c.args.run.before + (c.loop-i.i - c.args.run.from) + 1 ≡ c.args.run.before + (c.loop-i.i + 1 - c.args.run.from) = omega arith in
    subst (λ (n : ℕ). AreKept c.args.agg.now ns (rows_in s) n groups (map g.K.Keeping.state c.add_value.new.tallies.items)) next_is
    (kept_next c.args.agg.now ns (rows_in s) j groups states (map g.K.Keeping.state c.add_value.new.tallies.items) (cell_of c.argument-value.result) (counted (pos 0)) low there (c.requires.below j 0 low) c.loop-i.invariant
    (c.argument-value.ensures ∙ ap (argument c.args.agg.now) (ap (λ (n : ℕ). row_of_place s ((r.block, n), None)) place ∙ c.requires.rows k inside))
    (c.in_ok-add_value.ensures.next ∙ ap (λ (n : ℕ). set states n (next (get_or states n (counted (pos 0))) (cell_of c.argument-value.result))) number_is))

pub returns : goal.returns
returns g c =
    let done : c.args.run.before + (c.loop-i.i - c.args.run.from) ≡ c.args.run.before + (c.args.run.to - c.args.run.from) = omega (arith, c.requires.there.some) in
    record {
      kept = subst (λ (n : ℕ). AreKept c.args.agg.now c.args.groups.now.numbers.items (rows_in c.args.rows.now) n (length c.args.groups.now.firsts.items) (map g.K.Keeping.state c.loop-i.tallies.items)) done c.loop-i.invariant;
    }
