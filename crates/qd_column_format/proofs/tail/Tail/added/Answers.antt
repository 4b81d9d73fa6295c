use Rattle.std.proofs.Common.{◌≡◌, ◌∙◌, ℕ, List, ap, sym, subst, length, map, arith, IfOk}
use Rattle.std.specs.List.{flat_map}
use Rattle.qd_base.specs.declared.cell.Cell.{Cell}
use Rattle.qd_base.specs.declared.schema.ColType.{ColType}
use Rattle.qd_base.specs.declared.schema.ColType.TheVariants as kind
use Rattle.qd_column.specs.Symbols.{symbol_cell}
use Rattle.qd_column_format.specs.Added.{column_of, SpellsItself}
use Rattle.qd_column_format.specs.Spelling.{text_bytes}
use Rattle.qd_column_format.specs.Tails.{AddsBehind}
use Rattle.qd_column_format.proofs.TailLemmas.{symbols_further, texts_further, texts_size}
use Rattle.qd_column_format.proofs.tail.Tail.added.Goals as goal

pub overflow_add-self : goal.overflow_add-self
overflow_add-self g c =
    let size = texts_size c.marks_and_bytes.result.1.now c.marks_and_bytes.result.0.now c.marks_and_bytes.ensures.tiled in
    omega (arith, c.last_end.ensures.end, size.0, c.in_ok-added-in-Varchar.ensures.room)

pub returns-in-Symbol : goal.returns-in-Symbol
returns-in-Symbol g c = record {
  added = λ first k count itself tail.
      let rows = c.args.rows.now in
      let ids = c.symbols.result.now in
      let D = g.D.Dictionary.texts c.dictionary.result.now in
      let symbol : first.kind ≡ kind.Symbol = k ∙ sym c.in-Symbol.ensures.kind in
      let cells : map (symbol_cell D) ids ≡ rows.cells = ap (λ (t : List (List ℕ)). map (symbol_cell t) ids) c.dictionary.ensures.texts ∙ sym c.symbols.ensures.cells in
      symbols_further c.symbols_behind.result first rows (g.D.Dictionary.texts c.self.inside.texts) (g.D.Dictionary.texts c.symbols_behind.new.texts) D c.self.inside.end
      symbol (c.self.view_is ∙ tail) c.dictionary.ensures.texts c.symbols_behind.ensures.texts
      (λ old. subst (λ (l : List Cell). IfOk c.symbols_behind.result (AddsBehind kind.Symbol first.cells l)) cells (c.symbols_behind.ensures.added first.cells count (subst (λ (j : ColType). SpellsItself (column_of j first.cells)) symbol itself) old));
}

pub returns-in_ok-added-in-Varchar : goal.returns-in_ok-added-in-Varchar
returns-in_ok-added-in-Varchar g c = record {
  added = λ first k count itself tail.
      let rows = c.args.rows.now in
      let marks = c.marks_and_bytes.result.0.now in
      let bytes = c.marks_and_bytes.result.1.now in
      let size = texts_size bytes marks c.marks_and_bytes.ensures.tiled in
      let varchar : first.kind ≡ kind.Varchar = k ∙ sym c.in-Varchar.ensures.kind in
      let more : length (flat_map text_bytes rows.cells) ≡ c.last_end.result = ap (λ (l : List Cell). length (flat_map text_bytes l)) c.marks_and_bytes.ensures.cells ∙ size.1 ∙ sym c.last_end.ensures.end in
      texts_further c.in_ok-added-in-Varchar.added first rows.cells (g.D.Dictionary.texts c.self.inside.texts) c.self.inside.end c.last_end.result
      varchar (c.self.view_is ∙ tail) more
      (λ end. subst (λ (l : List Cell). AddsBehind kind.Varchar first.cells l c.in_ok-added-in-Varchar.added) (sym c.marks_and_bytes.ensures.cells) (c.in_ok-added-in-Varchar.ensures.added first.cells count (subst (λ (j : ColType). SpellsItself (column_of j first.cells)) varchar itself) end));
}
