use Rattle.std.proofs.Common.{All, take}
use Rattle.qd_order.specs.Orders.{IsOfOneClass}
use Rattle.qd_order.specs.Seen.{seen}
use Rattle.qd_order.proofs.compare.orders_alike.Given as goal

-- the keys so far have values of one class each
abbrev pub invariant-loop-column : goal.invariant-loop-column
invariant-loop-column l = All (λ c. IsOfOneClass (seen c).0) (take l.column-index l.columns)
