-- The cell that a key stands for.
use Rattle.qd_base.specs.declared.cell.Cell.{Cell}
use Rattle.qd_base.specs.declared.cell.Cell.TheVariants as cell
use Rattle.qd_order.specs.declared.keys.Key.{Key}
use Rattle.qd_order.specs.declared.keys.Key.TheVariants as key

abbrev pub lent : Key → Cell
lent key.Null = cell.Null
lent (key.Long x) = cell.Long x
lent (key.Truth x) = cell.Bool x
lent (key.Text t) = cell.Text t.now
lent (key.Time x) = cell.Time x
