use Rattle.std.proofs.Common.{◌≡◌, ◌∙◌, ◌-◌, ◌≤◌, Bool, List, map, ap, arith}
use Rattle.std.specs.List.{range_with_len}
use Rattle.qd_base.specs.declared.cell.Cell.{Cell}
use Rattle.qd_column.specs.Cells.{cell_of_row}
use Rattle.qd_value.specs.Cells as spec
use Rattle.qd_value.specs.Scalars.{cell_of}
use Rattle.qd_expr.proofs.LiteralLemmas.{cell_more, cells_done}
use Rattle.qd_expr.proofs.columns.compared_by_cell.Goals as goal

pub loop-i-preserved : goal.loop-i-preserved
loop-i-preserved g c =
    let test : Cell → Bool = λ x. spec.compares c.args.op x (cell_of c.args.literal) in
    cell_more test c.args.column.now c.args.from c.loop-i.i c.loop-i.found.items c.push.new.self.items c.compares.result (cell_of c.of_column.result) (omega arith) c.loop-i.invariant c.in_ok-push.ensures.items c.compares.ensures.holds c.of_column.ensures.value

pub returns : goal.returns
returns g c =
    let test : Cell → Bool = λ x. spec.compares c.args.op x (cell_of c.args.literal) in
    let done : c.loop-i.i - c.args.from ≡ c.args.to - c.args.from = omega (arith, c.requires.ordered) in
    record {
      truths = c.loop-i.invariant ∙ ap (λ n. map (λ k. test (cell_of_row c.args.column.now k)) (range_with_len c.args.from n)) done
          ∙ cells_done test c.args.column.now c.args.from c.args.to c.requires.ordered c.requires.within;
    }
