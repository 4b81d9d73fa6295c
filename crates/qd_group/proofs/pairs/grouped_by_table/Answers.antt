use Rattle.std.proofs.Common.{◌≡◌, ◌∙◌, ◌+◌, ◌*◌, ◌<◌, ◌≤◌, ℕ, Option, None, Some, ap, arith, get_or, length}
use Rattle.std.specs.Prelude.{unwrap_or}
use Rattle.std.proofs.lemmas.List.{length-replicate, length-set}
use Rattle.qd_group.proofs.PairLemmas.{tabled_none, tabled_more}
use Rattle.qd_group.proofs.pairs.grouped_by_table.Goals as goal

pub number_at-number-requires : goal.number_at-number-requires
number_at-number-requires c =
    let narrow : get_or c.args.further.now c.loop-i.i 0 < c.args.layout.width = c.requires.narrow c.loop-i.i 0 (omega (arith, c.requires.count)) in
    let room : get_or c.args.numbers.now c.loop-i.i 0 * c.args.layout.width + c.args.layout.width ≤ c.args.layout.places = c.requires.room c.loop-i.i 0 (omega arith) in
    omega (arith, c.loop-i.invariant.places)

pub loop-i-init : goal.loop-i-init
loop-i-init c = record {
  tabled = tabled_none c.args.numbers.now c.args.further.now c.args.layout.width c.args.layout.places c.in_ok-table.table.items c.in_ok-groups.groups.numbers.items c.in_ok-groups.groups.firsts.items c.in_ok-table.ensures.items c.in_ok-groups.ensures.numbers c.in_ok-groups.ensures.firsts;
  places = ap length c.in_ok-table.ensures.items ∙ length-replicate {A = Option ℕ} c.args.layout.places None;
}

pub loop-i-preserved : goal.loop-i-preserved
loop-i-preserved c =
    let a = c.args.numbers.now in
    let b = c.args.further.now in
    let i : ℕ = c.loop-i.i in
    let width : ℕ = c.args.layout.width in
    let table = c.loop-i.table.items in
    let count : c.len.result ≡ length c.loop-i.groups.firsts.items = omega arith in
    let narrow : get_or c.args.further.now c.loop-i.i 0 < c.args.layout.width = c.requires.narrow i 0 (omega (arith, c.requires.count)) in
    let room : get_or c.args.numbers.now c.loop-i.i 0 * c.args.layout.width + c.args.layout.width ≤ c.args.layout.places = c.requires.room i 0 (omega arith) in
    let low : get_or c.args.numbers.now c.loop-i.i 0 * c.args.layout.width + get_or c.args.further.now c.loop-i.i 0 < length c.loop-i.table.items = omega (arith, c.loop-i.invariant.places) in
    record {
      tabled = tabled_more a b width table c.number_at-number.new.table.items i c.number_at-number.result c.loop-i.groups.numbers.items c.loop-i.groups.firsts.items c.push.new.self.numbers.items c.push.new.self.firsts.items
          narrow low c.loop-i.invariant.tabled (c.number_at-number.ensures.number ∙ ap (unwrap_or (get_or table (get_or a i 0 * width + get_or b i 0) None)) count)
          c.number_at-number.ensures.table c.in_ok-push.ensures.numbers c.in_ok-push.ensures.firsts;
      places = ap length c.number_at-number.ensures.table ∙ length-set table (get_or a i 0 * width + get_or b i 0) (Some c.number_at-number.result) ∙ c.loop-i.invariant.places;
    }
