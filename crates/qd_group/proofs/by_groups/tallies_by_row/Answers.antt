use Rattle.std.proofs.Common.{◌≡◌, ◌∙◌, ◌<◌, ◌≤◌, ℕ, refl, ap, ap₂, sym, arith, length, map, get_or, set, replicate}
use Rattle.std.specs.Prelude.{pos}
use Rattle.std.proofs.lemmas.List.{length-map, get_or_default}
use Rattle.qd_expr.proofs.CellLemmas.{row_found}
use Rattle.qd_rows.specs.Sets.{rows_in}
use Rattle.qd_value.specs.Scalars.{cell_of}
use Rattle.qd_group.specs.Tallies.{argument, counted, next}
use Rattle.qd_group.proofs.Assembly.{length_rows}
use Rattle.qd_group.proofs.GroupTallies.{kept_next, kept_size}
use Rattle.qd_group.proofs.TallyLemmas.{kept_none, kept_all, map-replicate}
use Rattle.qd_group.proofs.by_groups.tallies_by_row.Goals as goal

pub loop-i-init : goal.loop-i-init
loop-i-init g c =
    let groups : ℕ = length c.args.groups.now.firsts.items in
    let count : c.len.result ≡ length c.args.groups.now.firsts.items = omega arith in
    let items = c.in_ok-tallies.tallies.items in
    kept_none c.args.agg.now c.args.groups.now.numbers.items (rows_in c.args.rows.now) groups (map g.K.Keeping.state items)
    (ap (map g.K.Keeping.state) c.in_ok-tallies.ensures.items ∙ map-replicate g.K.Keeping.state c.len.result c.args.start ∙ ap₂ (λ n s. replicate n s) count c.requires.start)

pub add_value-requires : goal.add_value-requires
add_value-requires g c =
    let ns = c.args.groups.now.numbers.items in
    let i : ℕ = c.loop-i.i in
    let groups : ℕ = length c.args.groups.now.firsts.items in
    let low : c.loop-i.i < length c.args.groups.now.numbers.items = omega (arith, c.requires.count) in
    let within : get_or c.args.groups.now.numbers.items c.loop-i.i 0 < length c.args.groups.now.firsts.items = c.requires.below i 0 low in
    let size : length c.loop-i.tallies.items ≡ length c.args.groups.now.firsts.items = sym (length-map c.loop-i.tallies.items g.K.Keeping.state) ∙ kept_size c.args.agg.now ns (rows_in c.args.rows.now) i groups (map g.K.Keeping.state c.loop-i.tallies.items) c.loop-i.invariant in
    let number_is : c.index.result.now ≡ get_or c.args.groups.now.numbers.items c.loop-i.i 0 = c.index.ensures ∙ get_or_default ns i c.index.result.now 0 low in
    λ k. ((refl, tt), omega (arith, within, size, number_is))

pub loop-i-preserved : goal.loop-i-preserved
loop-i-preserved g c =
    let ns = c.args.groups.now.numbers.items in
    let rows = rows_in c.args.rows.now in
    let i : ℕ = c.loop-i.i in
    let groups : ℕ = length c.args.groups.now.firsts.items in
    let states = map g.K.Keeping.state c.loop-i.tallies.items in
    let low : c.loop-i.i < length c.args.groups.now.numbers.items = omega (arith, c.requires.count) in
    let there : c.loop-i.i < length (rows_in c.args.rows.now) = omega (arith, length_rows c.args.rows.now) in
    let number_is : c.index.result.now ≡ get_or c.args.groups.now.numbers.items c.loop-i.i 0 = c.index.ensures ∙ get_or_default ns i c.index.result.now 0 low in
    kept_next c.args.agg.now ns rows i groups states (map g.K.Keeping.state c.add_value.new.tallies.items) (cell_of c.argument-value.result) (counted (pos 0)) low there (c.requires.below i 0 low) c.loop-i.invariant
    (c.argument-value.ensures ∙ ap (argument c.args.agg.now) (sym (row_found c.args.rows.now i c.places.result c.places.ensures.places)))
    (c.in_ok-add_value.ensures.next ∙ ap (λ (n : ℕ). set states n (next (get_or states n (counted (pos 0))) (cell_of c.argument-value.result))) number_is)

pub returns : goal.returns
returns g c =
    let all : length c.args.groups.now.numbers.items ≤ c.loop-i.i = omega (arith, c.requires.count) in
    record { tallies = c.loop-i.invariant ∙ kept_all c.args.agg.now c.args.groups.now.numbers.items (rows_in c.args.rows.now) c.loop-i.i (length c.args.groups.now.firsts.items) all (omega (arith, length_rows c.args.rows.now)) }
