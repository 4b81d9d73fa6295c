use Rattle.std.proofs.Common.{◌≡◌, ◌∙◌, ◌+◌, ◌-◌, ◌<◌, Bool, true, false, not, List, length, take, map, get_or, arith, refl, ap, sym, subst}
use Rattle.std.proofs.lemmas.Result.{IfOk-weaker}
use Rattle.qd_value.specs.declared.bound.Bound.{Bound}
use Rattle.qd_value.specs.declared.bound.Bound.TheVariants as is
use Rattle.qd_expr.specs.Passing.{all_in_run, any_in_run, passes_in_run}
use Rattle.qd_expr.proofs.RunLemmas.{all_found, any_found, no_test, run-not, run-all, run-any, size_all}
use Rattle.qd_expr.proofs.runs.+truths.Goals as goal
use Rattle.qd_expr.proofs.runs.+truths.Goals.{all-then-has_tests+in_ok-more+in_ok-found-2, all-else-has_tests+in_ok-found-3}

pub all-loop-test-init : goal.all-loop-test-init
all-loop-test-init g t c = c.in_ok-found.ensures.items_if_clones_equal (λ y e. e) ∙ no_test true c.args.run (c.args.run.to - c.args.run.from) refl

pub any-loop-test-init : goal.any-loop-test-init
any-loop-test-init g t c = c.in_ok-found.ensures.items_if_clones_equal (λ y e. e) ∙ no_test false c.args.run (c.args.run.to - c.args.run.from) refl

pub all-also-requires-clause-size : goal.all-also-requires-clause-size
all-also-requires-clause-size g t c =
    ap length c.as_slice-else-has_tests.ensures.value ∙ size_all (take c.loop-test.test-index c.args.tests.now) c.args.rows.now c.args.run c.loop-test.found.items c.loop-test.invariant

pub all-loop-test-preserved : goal.all-loop-test-preserved
all-loop-test-preserved g t c =
    let tests = c.args.tests.now in
    let s = c.args.rows.now in
    let r = c.args.run in
    let i = c.loop-test.test-index in
    let test : Bound = c.test-item.result in
    let low : c.loop-test.test-index < length c.args.tests.now = omega arith in
    elim c.if-has_tests.branch [
      | all-then-has_tests+in_ok-more+in_ok-found-2 w ↦
          rw w.found-is (all_found tests i test s r w.as_slice.result.now w.as_slice-then-has_tests.result.now w.in_ok-found-2.found.items low (sym c.test-item.is) (w.as_slice.ensures.value ∙ c.loop-test.invariant) (w.as_slice-then-has_tests.ensures.value ∙ w.in_ok-more.ensures.truths) w.in_ok-found-2.ensures.truths)
      | all-else-has_tests+in_ok-found-3 w ↦
          rw w.found-is (all_found tests i test s r w.as_slice-else-has_tests.result.now (passes_in_run test s r) w.in_ok-found-3.found.items low (sym c.test-item.is) (w.as_slice-else-has_tests.ensures.value ∙ c.loop-test.invariant) refl w.in_ok-found-3.ensures.truths)
    ]

pub any-loop-test-preserved : goal.any-loop-test-preserved
any-loop-test-preserved g t c =
    let low : c.loop-test.test-index < length c.args.tests.now = omega arith in
    any_found c.args.tests.now c.loop-test.test-index c.test-item.result c.args.rows.now c.args.run c.as_slice.result.now c.as_slice-in-loop-test.result.now c.in_ok-found-2.found.items low (sym c.test-item.is) (c.as_slice.ensures.value ∙ c.loop-test.invariant)
    (c.as_slice-in-loop-test.ensures.value ∙ c.in_ok-more.ensures.truths) c.in_ok-found-2.ensures.truths

pub truths-returns-in_ok-found-in-Not : goal.truths-returns-in_ok-found-in-Not
truths-returns-in_ok-found-in-Not g t c =
    let s = c.args.rows.now in
    let r = c.args.run in
    record {
      truths = IfOk-weaker c.opposite.result _ _
          (λ v h. h ∙ ap (map not) (c.as_slice.ensures.value ∙ c.in_ok-found-in-Not.ensures.truths) ∙ run-not c.get.result.now s r
          ∙ ap (λ (x : Bound). passes_in_run (is.Not x) s r) c.get.ensures ∙ ap (λ (x : Bound). passes_in_run x s r) (sym c.in-Not.is))
          c.opposite.ensures.truths;
    }

pub truths-returns-in-All : goal.truths-returns-in-All
truths-returns-in-All g t c =
    let s = c.args.rows.now in
    let r = c.args.run in
    record {
      truths = IfOk-weaker c.all.result _ _
          (λ v h. h ∙ run-all c.as_slice-in-All.result.now s r ∙ ap (λ (xs : List Bound). passes_in_run (is.All xs) s r) c.as_slice-in-All.ensures ∙ ap (λ (x : Bound). passes_in_run x s r) (sym c.in-All.is))
          c.all.ensures.truths;
    }

pub truths-returns-in-Any : goal.truths-returns-in-Any
truths-returns-in-Any g t c =
    let s = c.args.rows.now in
    let r = c.args.run in
    record {
      truths = IfOk-weaker c.any.result _ _
          (λ v h. h ∙ run-any c.as_slice-in-Any.result.now s r ∙ ap (λ (xs : List Bound). passes_in_run (is.Any xs) s r) c.as_slice-in-Any.ensures ∙ ap (λ (x : Bound). passes_in_run x s r) (sym c.in-Any.is))
          c.any.ensures.truths;
    }
