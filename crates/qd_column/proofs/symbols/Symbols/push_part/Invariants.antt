use Rattle.std.proofs.Common.{◌≡◌, ◌++◌, length, map, take}
use Rattle.qd_column.specs.Symbols.{texts_in, symbol_cell, LeadsTo}
use Rattle.qd_column.proofs.symbols.Symbols.push_part.Given as goal

-- the rows so far are added, and the table leads to their texts
abbrev pub invariant-loop-id : goal.invariant-loop-id
invariant-loop-id g l = record {
  cells : l.self ≡ l.fn.self ++ map (symbol_cell (texts_in l.other)) (take l.id-index l.id-items);
  size : length l.table.items ≡ length (texts_in l.other);
  leads : LeadsTo (texts_in l.other) (texts_in l.self) l.table.items;
}
