use Rattle.std.proofs.Common.{◌≡◌, map, take}
use Rattle.qd_base.specs.declared.schema.Col.{Col}
use Rattle.qd_column.specs.Cells.{no_cells}
use Rattle.qd_block.proofs.builder.Builder.new.Given as goal

-- the columns so far are there, without rows
abbrev pub invariant-loop-col : goal.invariant-loop-col
invariant-loop-col g l = l.columns.items ≡ map (λ (c : Col). no_cells c.kind) (take l.col-index l.col-items)
