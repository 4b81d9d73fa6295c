use Rattle.std.proofs.Common.{◌≡◌, ◌≤◌, ◌∙◌, List, OnOk, ap, arith, length, map, subst, sym}
use Rattle.std.specs.Arc.{arc_value}
use Rattle.qd_base.specs.declared.cell.Cell.{Cell}
use Rattle.qd_base.specs.declared.cell.Cell.TheVariants as cell
use Rattle.qd_block.specs.Blocks.{Block, column_in}
use Rattle.qd_column.specs.Cells.{CellsOf}
use Rattle.qd_column.specs.Symbols.{texts_in}
use Rattle.qd_group.specs.Keys.{lent}
use Rattle.qd_keys.specs.Symbols.{is_symbol}
use Rattle.qd_keys.proofs.SymbolRows.{block_names, lacking_names, no_names, other_names, symbol_names}
use Rattle.qd_keys.proofs.symbols.add_block.Goals as goal

pub returns-then-at-cols : goal.returns-then-at-cols
returns-then-at-cols g c =
    let x : Block = arc_value c.block-block.result.now in
    let high : length x.kinds ≤ c.args.at = subst (λ (b : Block). length b.kinds ≤ c.args.at) c.deref.ensures (omega (arith, c.cols.ensures.count)) in
    record { kept = no_names (map lent c.args.texts.now.items) c.args.at c.args.rows.now.blocks c.args.b x c.block-block.ensures.block (lacking_names c.args.at x high) }

pub returns-then-not-is_symbol : goal.returns-then-not-is_symbol
returns-then-not-is_symbol g c =
    let x : Block = arc_value c.block-block.result.now in
    let col = c.column-column.ensures.column ∙ ap (λ (b : Block). column_in b c.args.at) c.deref-2.ensures in
    record {
      kept = no_names (map lent c.args.texts.now.items) c.args.at c.args.rows.now.blocks c.args.b x c.block-block.ensures.block
          (other_names c.args.at x (ap (λ (k : CellsOf). is_symbol k.kind) (sym col) ∙ ap is_symbol (sym c.kind.ensures.kind) ∙ sym c.is_symbol.ensures ∙ c.if-not-is_symbol.true));
    }

pub returns : goal.returns
returns g c =
    let x : Block = arc_value c.block-block.result.now in
    let col = c.column-column.ensures.column ∙ ap (λ (b : Block). column_in b c.args.at) c.deref-2.ensures in
    let yes = ap (λ (k : CellsOf). is_symbol k.kind) (sym col) ∙ ap is_symbol (sym c.kind.ensures.kind) ∙ sym c.is_symbol.ensures ∙ c.if-not-is_symbol.false in
    let added = symbol_names c.args.at x yes ∙ ap (λ (k : CellsOf). map (λ t. cell.Text t) (texts_in k.cells)) (sym col) ∙ ap (map (λ t. cell.Text t)) (sym c.dictionary.ensures.texts) in
    record {
      kept = subst (λ (l : List Cell). OnOk c.add_texts.result (map lent c.add_texts.new.texts.items ≡ l)) (block_names (map lent c.args.texts.now.items) c.args.at c.args.rows.now.blocks c.args.b x _ c.block-block.ensures.block added) c.add_texts.ensures.kept;
    }
