use Rattle.std.proofs.Common.{◌≡◌, ◌++◌, map, take}
use Rattle.qd_column.specs.Cells.{CellsOf, cell_of_row}
use Rattle.qd_block.proofs.block.Block.with_cells.Given as goal

-- the cells so far stand behind the row's own
abbrev pub invariant-loop-column : goal.invariant-loop-column
invariant-loop-column g l = l.row ≡ l.fn.row ++ map (λ (c : CellsOf). cell_of_row c l.i) (take l.column-index l.column-items)
