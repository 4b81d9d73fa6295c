use Rattle.std.proofs.Common.{All, arith, map, subst}
use Rattle.std.proofs.lemmas.List.{take_all}
use Rattle.std.proofs.lemmas.List.Elements.{All-map, All-more}
use Rattle.qd_order.specs.declared.columns.KeyColumn.{KeyColumn}
use Rattle.qd_order.specs.Orders.{Keyed, IsOfOneClass}
use Rattle.qd_order.specs.Seen.{seen}
use Rattle.qd_order.proofs.Standing as lemmas
use Rattle.qd_order.proofs.compare.orders_alike.Goals as goal

pub loop-column-preserved : goal.loop-column-preserved
loop-column-preserved c =
    let P : KeyColumn → Type 0 = λ x. IsOfOneClass (seen x).0 in
    let here : P c.column-item.result = c.if-not-is_of_one_class.ensures in
    All-more P c.args.columns.now c.loop-column.column-index c.column-item.result c.loop-column-test.true c.loop-column.invariant (subst P c.column-item.is here)

pub returns : goal.returns
returns c =
    let P : KeyColumn → Type 0 = λ x. IsOfOneClass (seen x).0 in
    let all : All P c.args.columns.now = subst (All P) (take_all c.loop-column.column-index c.args.columns.now (omega arith)) c.loop-column.invariant in
    record { alike = lemmas.orders_alike (map seen c.args.columns.now) (All-map (λ (k : Keyed). IsOfOneClass k.0) seen c.args.columns.now all) }
