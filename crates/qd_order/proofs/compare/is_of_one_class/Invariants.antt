use Rattle.std.proofs.Common.{◌≡◌, true, All, map, take}
use Rattle.qd_order.specs.Keys.{lent}
use Rattle.qd_order.specs.Orders.{goes_with}
use Rattle.qd_order.proofs.compare.is_of_one_class.Given as goal

-- the values so far go with the leading one
abbrev pub invariant-loop-key : goal.invariant-loop-key
invariant-loop-key l = All (λ c. goes_with (lent l.lead) c ≡ true) (map lent (take l.key-index l.column.values.items))
