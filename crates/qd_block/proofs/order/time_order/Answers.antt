use Rattle.std.proofs.Common.{◌∙◌, ◌<◌, ℕ, List, [], All, ap, sym, subst, map, length, get_or}
use Rattle.std.proofs.lemmas.Result.{IfOk-weaker}
use Rattle.qd_block.proofs.OrderLemmas.{places_within, rows_placed}
use Rattle.qd_block.proofs.order.time_order.Goals as goal

pub returns-clause-within : goal.returns-clause-within
returns-clause-within c = IfOk-weaker c.places_in_order.result _ _ (λ v h. subst (λ (is : List ℕ). All (λ i. i < length c.args.times.now) is) (sym h.2) (places_within c.args.times.now h.0 h.1)) c.places_in_order.ensures.order

pub returns-clause-order : goal.returns-clause-order
returns-clause-order c = λ col rows are. IfOk-weaker c.places_in_order.result _ _ (λ v h. ap (map (λ i. get_or rows i [])) h.2 ∙ rows_placed col rows c.args.times.now h.0 are h.1) c.places_in_order.ensures.order
