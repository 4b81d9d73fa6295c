use Rattle.std.proofs.Common.{◌∙◌, ◌++◌, ◌∷◌, [], ℕ, Bool, List, Option, unwrap_or, ap}
use Rattle.std.specs.Prelude.{is_some}
use Rattle.qd_base.specs.declared.code.Code.TheVariants as code
use Rattle.qd_base.specs.declared.schema.Col.{Col}
use Rattle.qd_base.specs.Schemas.{column_at}
use Rattle.qd_sql_ast.specs.declared.tree.OrderKey.{OrderKey}
use Rattle.qd_meaning.specs.Refusals.{least, sooner, unless}
use Rattle.qd_plan.specs.Ordering.{key_faults, order_key}
use Rattle.qd_plan.proofs.FaultLemmas.{map_more, more}
use Rattle.qd_plan.proofs.order.order_by.Goals as goal

pub loop-key-preserved : goal.loop-key-preserved
loop-key-preserved c =
    let out : List Col = c.args.out.now in
    let keys : List OrderKey = c.args.keys.now in
    let i : ℕ = c.loop-key.key-index in
    let x : OrderKey = c.key-item.result in
    let lt = c.loop-key-test.true in
    let found = c.find-found.ensures.position ∙ ap (column_at out) c.bytes.ensures.same in
    record {
      order =
          c.in_ok-push.ensures.ok
          ∙ ap (λ (ks : List (ℕ × Bool)). ks ++ (c.in_ok-at.at, x.is_descending) ∷ []) c.loop-key.invariant.order
          ∙ map_more (order_key out) keys i x (c.in_ok-at.at, x.is_descending) lt
          (ap (λ (n : ℕ). (n, x.is_descending)) (c.in_ok-at.ensures.same ∙ c.unwrap_or.ensures ∙ ap (λ (o : Option ℕ). unwrap_or o 0) found) ∙ ap (order_key out) c.key-item.is);
      faults =
          more (key_faults out) keys i x lt c.key-item.is c.args.faults.now.first c.loop-key.faults.first c.unless.new.self.first c.loop-key.invariant.faults
          (c.unless.ensures.added ∙ ap (λ (b : Bool). sooner c.loop-key.faults.first (least (unless b code.UnknownColumn x.name.at))) (c.is_some.ensures ∙ ap is_some found));
    }
