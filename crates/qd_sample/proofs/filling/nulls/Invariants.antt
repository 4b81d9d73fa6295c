use Rattle.std.proofs.Common.{◌≡◌, map, replicate}
use Rattle.qd_base.specs.declared.cell.Cell.TheVariants as cell
use Rattle.qd_value.specs.Scalars.{cell_of}
use Rattle.qd_sample.proofs.filling.nulls.Given as goal

-- the cells so far
abbrev pub invariant-loop : goal.invariant-loop
invariant-loop l = map cell_of l.cells.items ≡ replicate l.counter cell.Null
