use Rattle.std.proofs.Common.{◌≡◌, map, take}
use Rattle.qd_column.specs.Cells.{CellsOf, cells_at}
use Rattle.qd_block.proofs.builder.gathered_columns.Given as goal

-- the columns so far are copied
abbrev pub invariant-loop-column : goal.invariant-loop-column
invariant-loop-column g l = l.chosen.items ≡ map (λ (c : CellsOf). cells_at c l.places) (take l.column-index l.columns)
