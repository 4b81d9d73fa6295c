use Rattle.std.proofs.Common.{◌+◌, ◌++◌, List, IfOk, ap₂, length, subst}
use Rattle.qd_base.specs.declared.cell.Cell.{Cell}
use Rattle.qd_base.specs.Rows.{Row, cell_at}
use Rattle.qd_expr.proofs.RunLemmas.{value-column}
use Rattle.qd_rows.specs.Sets.{rows_in}
use Rattle.qd_value.specs.declared.bound.Bound.TheVariants as bound
use Rattle.qd_value.specs.Value.{value}
use Rattle.qd_keys.specs.Keys.{same_in, Tells}
use Rattle.qd_keys.proofs.KeyLemmas.{map_like}
use Rattle.qd_keys.proofs.columns.numbers_by.Goals as goal

pub returns : goal.returns
returns g c =
    let first = c.args.first.now in
    let second = c.args.second.now in
    let cells = ap₂ (λ (a b : List Cell). a ++ b)
    (map_like (value (bound.Column c.args.first_at)) (λ (r : Row). cell_at r c.args.first_at) (rows_in first) (value-column c.args.first_at))
    (map_like (value (bound.Column c.args.second_at)) (λ (r : Row). cell_at r c.args.second_at) (rows_in second) (value-column c.args.second_at)) in
    record {
      tell = subst (λ (l : List Cell). IfOk c.value_numbers.result (λ n. Tells (same_in l) (length first.places + length second.places) n.bound n.numbers.items)) cells c.value_numbers.ensures.tell;
    }
