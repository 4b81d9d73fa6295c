-- What a column of keys holds.
use Rattle.std.specs.Prelude.{map}
use Rattle.qd_order.specs.declared.columns.KeyColumn.{KeyColumn}
use Rattle.qd_order.specs.Keys.{lent}
use Rattle.qd_order.specs.Orders.{Keyed}

abbrev pub seen : KeyColumn → Keyed
seen c = (map lent c.values.items, c.descending)
