use Rattle.std.proofs.Common.{◌≡◌, length, map, take}
use Rattle.qd_column.specs.Symbols.{texts_in, symbol_cell, LeadsTo}
use Rattle.qd_column.proofs.symbols.Symbols.of_ids.Given as goal

-- the rows so far are there, and the table leads to their texts
abbrev pub invariant-loop-id : goal.invariant-loop-id
invariant-loop-id g l = record {
  cells : l.symbols ≡ map (symbol_cell (g.D.Dictionary.texts l.dictionary)) (take l.id-index l.ids);
  size : length l.table.items ≡ length (g.D.Dictionary.texts l.dictionary);
  leads : LeadsTo (g.D.Dictionary.texts l.dictionary) (texts_in l.symbols) l.table.items;
}
