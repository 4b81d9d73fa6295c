use Rattle.std.proofs.Common.{◌≡◌, ◌≤◌, ◌-◌, ap, subst, length, arith, IfOk, List, slice_range}
use Rattle.std.proofs.lemmas.List.{take_all}
use Rattle.qd_base.specs.Rows.{Row}
use Rattle.qd_block.specs.Blocks.{Block}
use Rattle.qd_block.proofs.RowLemmas.{length-rows_of}
use Rattle.qd_block.proofs.block.Block.copy.Goals as goal

pub slice_rows-requires-clause-within : goal.slice_rows-requires-clause-within
slice_rows-requires-clause-within g c = omega (arith, ap (λ (x : Block). length x.rows) c.self.view_is, length-rows_of c.self.inside.rows c.self.inside.columns.items)

pub returns : goal.returns
returns g c =
    let size : length c.args.self.now.rows ≤ c.self.inside.rows = omega (arith, ap (λ (x : Block). length x.rows) c.self.view_is, length-rows_of c.self.inside.rows c.self.inside.columns.items) in
    let all : slice_range c.args.self.now.rows 0 c.self.inside.rows ≡ c.args.self.now.rows = take_all (c.self.inside.rows - 0) c.args.self.now.rows (omega arith) in
    record { same = subst (λ (rows : List Row). IfOk c.slice_rows.result (λ (other : Block). other ≡ record c.args.self.now { rows = rows })) all c.slice_rows.ensures.rows }
