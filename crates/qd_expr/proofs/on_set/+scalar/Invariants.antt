use Rattle.std.proofs.Common.{◌≡◌, drop, map}
use Rattle.std.specs.List.{list_all, list_any}
use Rattle.qd_rows.specs.Sets.{row_of_place}
use Rattle.qd_value.specs.Cells.{is_true}
use Rattle.qd_value.specs.Scalars.{cell_of}
use Rattle.qd_value.specs.Value.{chained, operand_value, value}
use Rattle.qd_expr.proofs.on_set.+scalar.Given as goal

abbrev pub invariant-chained-loop-step : goal.invariant-chained-loop-step
invariant-chained-loop-step g l =
    chained (cell_of l.found) (map (operand_value (row_of_place l.rows l.place)) (drop l.step-index l.steps)) ≡ chained (cell_of l.first) (map (operand_value (row_of_place l.rows l.place)) l.steps)

abbrev pub invariant-all-loop-test : goal.invariant-all-loop-test
invariant-all-loop-test g l = list_all is_true (map (λ e. value e (row_of_place l.rows l.place)) (drop l.test-index l.tests)) ≡ list_all is_true (map (λ e. value e (row_of_place l.rows l.place)) l.tests)

abbrev pub invariant-any-loop-test : goal.invariant-any-loop-test
invariant-any-loop-test g l = list_any is_true (map (λ e. value e (row_of_place l.rows l.place)) (drop l.test-index l.tests)) ≡ list_any is_true (map (λ e. value e (row_of_place l.rows l.place)) l.tests)
