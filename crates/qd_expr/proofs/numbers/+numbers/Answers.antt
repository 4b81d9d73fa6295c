use Rattle.std.proofs.Common.{◌≡◌, ◌∙◌, ◌<◌, List, length, map, ap, arith, sym, subst, IfOk}
use Rattle.std.specs.Prelude.{IfSome}
use Rattle.qd_base.specs.declared.cell.Cell.{Cell}
use Rattle.qd_column.specs.Cells.{long_cell}
use Rattle.qd_value.specs.declared.bound.Bound.{Bound}
use Rattle.qd_value.specs.declared.bound.Bound.TheVariants as is
use Rattle.qd_value.specs.declared.bound.Operand.{Operand}
use Rattle.qd_value.specs.Cells.{negated}
use Rattle.qd_expr.specs.Numbers.{chained_in_run}
use Rattle.qd_expr.specs.Passing.{values_in_run}
use Rattle.qd_expr.proofs.NumberLemmas.{chain_more, opposites_kept, run-chain, run-negated}
use Rattle.qd_expr.proofs.numbers.+numbers.Goals as goal

pub chained-loop-step-preserved : goal.chained-loop-step-preserved
chained-loop-step-preserved g t c =
    let low : c.loop-step.step-index < length c.args.steps.now = omega arith in
    chain_more c.args.rows.now c.args.run (map long_cell c.args.first.items) c.args.steps.now c.loop-step.step-index c.step-item.result c.as_slice.result.now c.as_slice-in-Some.result.now c.in_ok-found-in-Some.found.items low (sym c.step-item.is)
    (ap (map long_cell) c.as_slice.ensures.value ∙ c.loop-step.invariant)
    (ap (map long_cell) c.as_slice-in-Some.ensures.value ∙ rw c.in-Some.is at c.in_ok-right.ensures.values)
    c.in_ok-found-in-Some.ensures.numbers

pub numbers-returns-in_ok-opposites-in-Some : goal.numbers-returns-in_ok-opposites-in-Some
numbers-returns-in_ok-opposites-in-Some g t c =
    let s = c.args.rows.now in
    let r = c.args.run in
    record {
      values = ap (map long_cell) c.in_ok-opposites-in-Some.ensures.numbers
          ∙ opposites_kept c.as_slice.result.now
          ∙ ap (map negated) (ap (map long_cell) c.as_slice.ensures.value ∙ rw c.in-Some.is at c.in_ok-found-in-Negated.ensures.values)
          ∙ run-negated c.get.result.now s r
          ∙ ap (λ (x : Bound). values_in_run (is.Negated x) s r) c.get.ensures
          ∙ ap (λ (x : Bound). values_in_run x s r) (sym c.in-Negated.is);
    }

pub numbers-returns-in-Some-2 : goal.numbers-returns-in-Some-2
numbers-returns-in-Some-2 g t c =
    let s = c.args.rows.now in
    let r = c.args.run in
    let steps = c.as_slice-in-Some-2.result.now in
    record {
      values = subst (λ (l : List Cell). IfOk c.chained.result (λ found. IfSome found (λ v. map long_cell v.items ≡ l)))
          (ap (λ (l : List Cell). chained_in_run l steps s r) (rw c.in-Some-2.is at c.in_ok-first-in-Chain.ensures.values)
          ∙ run-chain s r c.get-in-Chain.result.now steps
          ∙ ap (λ (x : Bound). values_in_run (is.Chain x steps) s r) c.get-in-Chain.ensures
          ∙ ap (λ (xs : List Operand). values_in_run (is.Chain c.in-Chain.x xs) s r) c.as_slice-in-Some-2.ensures
          ∙ ap (λ (x : Bound). values_in_run x s r) (sym c.in-Chain.is))
          c.chained.ensures.values;
    }
