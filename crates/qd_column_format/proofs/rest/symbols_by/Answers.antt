use Rattle.std.proofs.Common.{◌≡◌, ◌∙◌, ℕ, ◌++◌, ◌∷◌, [], List, ap, sym, subst, length, length-append, arith}
use Rattle.std.specs.List.{range_with_len}
use Rattle.std.proofs.lemmas.List.{length-map}
use Rattle.std.proofs.lemmas.List.FromFn.{length-range_with_len}
use Rattle.qd_column.specs.Cells.{CellsOf}
use Rattle.qd_column.specs.Symbols.{symbol_cell, AreSymbols}
use Rattle.qd_column_format.proofs.ColumnLemmas.{all_fit}
use Rattle.qd_column_format.proofs.RestLemmas.{all_ids, all_made, all_symbols, part_is, range_more}
use Rattle.qd_column_format.proofs.rest.symbols_by.Goals as goal

pub loop-id-preserved : goal.loop-id-preserved
loop-id-preserved g c = c.in_ok-push.ensures.items ∙ ap (λ (l : List ℕ). l ++ c.loop-id.id ∷ []) c.loop-id.invariant ∙ sym (range_more 0 c.loop-id.id c.loop-id.id (omega arith))

pub of_symbols-whole-requires : goal.of_symbols-whole-requires
of_symbols-whole-requires g c =
    let ids = c.args.ids.now in
    let done : c.loop-id.id ≡ c.args.count = omega arith in
    let all : c.extend_from_slice.new.self.items ≡ all_ids c.args.count ids = all_made c.extend_from_slice.new.self.items c.loop-id.all.items ids c.loop-id.id c.args.count c.in_ok-extend_from_slice.ensures.items c.loop-id.invariant done in
    subst (AreSymbols (g.D.Dictionary.texts c.args.dictionary)) (sym all)
    (all_symbols c.args.count ids c.requires.count c.requires.few (all_fit ids (λ i. omega (arith, c.type_inv.ids i))) (g.D.Dictionary.texts c.args.dictionary) c.requires.distinct c.requires.short c.requires.all)

pub part-requires-clause-within : goal.part-requires-clause-within
part-requires-clause-within g c =
    let ids = c.args.ids.now in
    let texts = g.D.Dictionary.texts c.args.dictionary in
    let done : c.loop-id.id ≡ c.args.count = omega arith in
    let all : c.extend_from_slice.new.self.items ≡ all_ids c.args.count ids = all_made c.extend_from_slice.new.self.items c.loop-id.all.items ids c.loop-id.id c.args.count c.in_ok-extend_from_slice.ensures.items c.loop-id.invariant done in
    omega (arith, ap (λ (column : CellsOf). length column.cells) c.of_symbols-whole.ensures.column, length-map c.extend_from_slice.new.self.items (symbol_cell texts), ap length all, length-append (range_with_len 0 c.args.count) ids, length-range_with_len 0 c.args.count)

pub returns : goal.returns
returns g c =
    let ids = c.args.ids.now in
    let done : c.loop-id.id ≡ c.args.count = omega arith in
    let all : c.extend_from_slice.new.self.items ≡ all_ids c.args.count ids = all_made c.extend_from_slice.new.self.items c.loop-id.all.items ids c.loop-id.id c.args.count c.in_ok-extend_from_slice.ensures.items c.loop-id.invariant done in
    record { column = part_is c.args.count ids c.requires.count c.requires.few (all_fit ids (λ i. omega (arith, c.type_inv.ids i))) c.part.result c.of_symbols-whole.result (g.D.Dictionary.texts c.args.dictionary) c.extend_from_slice.new.self.items all c.of_symbols-whole.ensures.column c.part.ensures.cells }
