-- The cell that a scalar is.
use Rattle.qd_base.specs.declared.cell.Cell.{Cell}
use Rattle.qd_base.specs.declared.cell.Cell.TheVariants as cell
use Rattle.qd_value.specs.declared.scalars.Scalar.{Scalar}
use Rattle.qd_value.specs.declared.scalars.Scalar.TheVariants as scalar

abbrev pub cell_of : Scalar → Cell
cell_of scalar.Null = cell.Null
cell_of (scalar.Long x) = cell.Long x
cell_of (scalar.Bool b) = cell.Bool b
cell_of (scalar.Text t) = cell.Text t.now
cell_of (scalar.Time t) = cell.Time t
