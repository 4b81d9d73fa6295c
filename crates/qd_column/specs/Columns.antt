-- What the layout of a column stands for.
use Rattle.std.specs.Prelude.{List, map}
use Rattle.qd_base.specs.declared.cell.Cell.{Cell}
use Rattle.qd_base.specs.declared.cell.Cell.TheVariants as cell
use Rattle.qd_base.specs.declared.schema.ColType.{ColType}
use Rattle.qd_base.specs.declared.schema.ColType.TheVariants as kind
use Rattle.qd_column.specs.declared.column.Data.{Data}
use Rattle.qd_column.specs.declared.column.Data.TheVariants as kept
use Rattle.qd_column.specs.Cells.{CellsOf, long_cell, time_cell}

abbrev pub column_of : {D : Type 0} → Data D → CellsOf
column_of (kept.Longs xs) = record { kind = kind.Long; cells = map long_cell xs.items }
column_of (kept.Truths xs) = record { kind = kind.Bool; cells = map (λ b. cell.Bool b) xs.items }
column_of (kept.Symbols xs) = record { kind = kind.Symbol; cells = xs }
column_of (kept.Texts xs) = record { kind = kind.Varchar; cells = xs }
column_of (kept.Times xs) = record { kind = kind.Time; cells = map time_cell xs.items }
