use Rattle.std.proofs.Common.{◌<◌, ◌∙◌, [], ap, arith, length, map, subst, sym}
use Rattle.std.proofs.lemmas.List.{get_or-map, length-map, take_all}
use Rattle.qd_base.specs.declared.cell.Cell.TheVariants as cell
use Rattle.qd_base.specs.Rows.{Row, cell_at}
use Rattle.qd_group.specs.Keys.{lent}
use Rattle.qd_group.proofs.Assembly.{length_rows}
use Rattle.qd_rows.specs.Sets.{rows_in}
use Rattle.qd_keys.specs.Symbols.{number_of, AreNumbersOf}
use Rattle.qd_keys.proofs.SymbolLemmas.{numbers_none, numbers_more}
use Rattle.qd_keys.proofs.symbols.numbers_of.Goals as goal

pub loop-i-init : goal.loop-i-init
loop-i-init g c = subst (AreNumbersOf (map lent c.args.names.now.texts.items) c.args.names.now.groups.firsts.items []) (sym c.in_ok-numbers.ensures.items) (numbers_none (map lent c.args.names.now.texts.items) c.args.names.now.groups.firsts.items)

pub loop-i-preserved : goal.loop-i-preserved
loop-i-preserved g c =
    let names = map lent c.args.names.now.texts.items in
    let fs = c.args.names.now.groups.firsts.items in
    let low : c.loop-i.i < length (rows_in c.args.rows.now) = omega (arith, length_rows c.args.rows.now) in
    numbers_more names fs (map (λ r. cell_at r c.args.at) (rows_in c.args.rows.now)) c.loop-i.numbers.items c.push.new.self.items c.loop-i.i c.number_at.result (omega (arith, low, length-map (rows_in c.args.rows.now) (λ (r : Row). cell_at r c.args.at)))
    (ap (number_of names fs) (get_or-map (λ r. cell_at r c.args.at) (rows_in c.args.rows.now) c.loop-i.i [] cell.Null low) ∙ c.number_at.ensures.number) c.in_ok-push.ensures.items c.loop-i.invariant

pub returns : goal.returns
returns g c =
    record {
      numbers = subst (λ l. AreNumbersOf (map lent c.args.names.now.texts.items) c.args.names.now.groups.firsts.items l c.loop-i.numbers.items)
          (take_all c.loop-i.i (map (λ r. cell_at r c.args.at) (rows_in c.args.rows.now)) (omega (arith, length_rows c.args.rows.now, length-map (rows_in c.args.rows.now) (λ (r : Row). cell_at r c.args.at)))) c.loop-i.invariant;
    }
