use Rattle.std.proofs.Common.{◌≡◌, ◌-◌, ◌∙◌, ℕ, List, length, get_or, arith, ap, sym, subst, All}
use Rattle.std.specs.List.{slice_range}
use Rattle.qd_base.specs.Dictionary.{AreDistinct}
use Rattle.qd_column.specs.Cells.{CellsOf}
use Rattle.qd_column.specs.Symbols.{symbol_cell, texts_in, IsIdOf}
use Rattle.qd_latest.specs.Chains.{cells_of, texts_of}
use Rattle.qd_latest.proofs.ChainLemmas.{chained_all, chained_more, chained_none}
use Rattle.qd_latest.proofs.PartLemmas.{rows_hold, rows_within, size}
use Rattle.qd_latest.proofs.linked.chains.Given as given
use Rattle.qd_latest.proofs.linked.chains.Goals as goal

texts : (g : given.Over) (c : goal.In_ok-links g) → g.D.Dictionary.texts c.dictionary.result.now ≡ texts_of c.args.rows.now c.args.from c.args.col
texts g c = c.dictionary.ensures.texts ∙ ap (λ (k : CellsOf). texts_in k.cells) c.column_of-column.ensures.column

count : (g : given.Over) (c : goal.In_ok-links g) → c.len.result ≡ length (texts_of c.args.rows.now c.args.from c.args.col)
count g c = c.len.ensures.count ∙ ap (λ (l : List (List ℕ)). length l) (texts g c)

pub loop-end-init : goal.loop-end-init
loop-end-init g c = record {
  from = omega (arith, c.requires.some);
  to = omega arith;
  chained = chained_none (slice_range (cells_of c.args.rows.now c.args.col) c.args.from c.args.to) (texts_of c.args.rows.now c.args.from c.args.col) c.in_ok-links.links c.len.result (c.args.to - c.args.from)
      (sym (size c.args.rows.now c.args.from c.args.to c.args.col c.requires c.column_of-column.ensures.whole c.column_of-column.result.now c.column_of-column.ensures.column)) (count g c) c.in_ok-links.ensures.nodes c.in_ok-links.ensures.lists c.in_ok-links.ensures.unlisted;
  once = c.in_ok-links.ensures.once;
}

pub ids_of-ids-requires-clause-within : goal.ids_of-ids-requires-clause-within
ids_of-ids-requires-clause-within g c =
    rows_within c.args.rows.now c.args.from c.args.to c.args.col c.requires c.column_of-column.ensures.whole c.column_of-column.result.now c.column_of-column.ensures.column
    c.last_part-part.result c.last_part-part.ensures.part c.loop-end.end c.last_part-part.ensures.begins c.last_part-part.ensures.ends c.loop-end.invariant.to

pub loop-end-preserved : goal.loop-end-preserved
loop-end-preserved g c =
    let named : g.D.Dictionary.texts c.dictionary.result.now ≡ texts_of c.args.rows.now c.args.from c.args.col = c.dictionary.ensures.texts ∙ ap (λ (k : CellsOf). texts_in k.cells) c.column_of-column.ensures.column in
    let size_is : c.len.result ≡ length (texts_of c.args.rows.now c.args.from c.args.col) = c.len.ensures.count ∙ ap (λ (l : List (List ℕ)). length l) named in
    let lists : List (List ℕ) = texts_of c.args.rows.now c.args.from c.args.col in
    let same : texts_in c.column_of-column.result.now.cells ≡ texts_of c.args.rows.now c.args.from c.args.col = ap (λ (k : CellsOf). texts_in k.cells) c.column_of-column.ensures.column in
    let known : All (IsIdOf lists) c.ids_of-ids.result.now = subst (λ (ts : List (List ℕ)). All (IsIdOf ts) c.ids_of-ids.result.now) same c.ids_of-ids.ensures.each in
    let distinct : AreDistinct lists = subst AreDistinct named c.len.ensures.distinct in
    record {
      from = c.last_part-part.ensures.begins;
      to = omega (arith, c.last_part-part.ensures.ends, c.loop-end.invariant.to);
      chained = chained_more (slice_range (cells_of c.args.rows.now c.args.col) c.args.from c.args.to) lists distinct (omega (arith, size_is, c.len.type_inv)) c.loop-end.links c.link_ids.new.links (c.loop-end.end - c.args.from) (c.last_part-part.result.before - c.args.from) c.ids_of-ids.result.now
          (omega (arith, c.ids_of-ids.ensures.count, c.last_part-part.ensures.ends, c.last_part-part.ensures.begins)) c.loop-end.invariant.chained known
          (λ k low.
          rows_hold c.args.rows.now c.args.from c.args.to c.args.col c.requires c.column_of-column.ensures.whole c.column_of-column.result.now c.column_of-column.ensures.column c.last_part-part.result c.last_part-part.ensures.part c.loop-end.end
          c.last_part-part.ensures.begins c.last_part-part.ensures.ends c.loop-end.invariant.to k (omega (arith, low, c.ids_of-ids.ensures.count))
          ∙ c.ids_of-ids.ensures.cells k low
          ∙ ap (λ (ts : List (List ℕ)). symbol_cell ts (get_or c.ids_of-ids.result.now k 0)) same)
          c.link_ids.ensures.nodes c.link_ids.ensures.count c.link_ids.ensures.lists c.link_ids.ensures.above;
      once = c.link_ids.ensures.once;
    }

pub returns-clause-chains : goal.returns-clause-chains
returns-clause-chains g c =
    chained_all (slice_range (cells_of c.args.rows.now c.args.col) c.args.from c.args.to) (texts_of c.args.rows.now c.args.from c.args.col) c.loop-end.links (c.loop-end.end - c.args.from) (c.args.to - c.args.from) (omega (arith, c.loop-end-test.false))
    (size c.args.rows.now c.args.from c.args.to c.args.col c.requires c.column_of-column.ensures.whole c.column_of-column.result.now c.column_of-column.ensures.column) c.loop-end.invariant.chained
