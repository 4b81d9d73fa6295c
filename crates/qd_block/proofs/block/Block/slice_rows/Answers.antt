use Rattle.std.proofs.Common.{◌∙◌, ◌≤◌, ap, sym, subst, map, length, arith, All, List, ℕ}
use Rattle.qd_column.specs.Cells.{CellsOf}
use Rattle.qd_block.specs.Blocks.{Block, part_of_column}
use Rattle.qd_block.proofs.RowLemmas.{length-rows_of}
use Rattle.qd_block.proofs.BlockLemmas.{block_part}
use Rattle.qd_block.proofs.block.Block.slice_rows.Goals as goal

pub parts_of-requires-clause-within : goal.parts_of-requires-clause-within
parts_of-requires-clause-within g c =
    let top : c.args.to ≤ c.self.inside.rows = omega (arith, c.requires.within, ap (λ (x : Block). length x.rows) c.self.view_is, length-rows_of c.self.inside.rows c.self.inside.columns.items) in
    let each : All (λ (x : CellsOf). c.args.to ≤ length x.cells) c.self.inside.columns.items = λ k d h. subst (λ (n : ℕ). c.args.to ≤ n) (sym (c.self.invariant.sizes k d h)) top in
    subst (λ (xs : List CellsOf). All (λ (x : CellsOf). c.args.to ≤ length x.cells) xs) (sym c.as_slice.ensures.value) each

pub invariant_of-result : goal.invariant_of-result
invariant_of-result g c = (block_part c.self.inside.rows c.self.inside.time_col c.args.from c.args.to c.self.inside.columns.items c.in_ok-columns.columns.items c.args.self.now c.self.invariant c.self.view_is c.requires.ordered c.requires.within (c.in_ok-columns.ensures.columns ∙ ap (map (part_of_column c.args.from c.args.to)) c.as_slice.ensures.value)).0

pub returns : goal.returns
returns g c = record { rows = (block_part c.self.inside.rows c.self.inside.time_col c.args.from c.args.to c.self.inside.columns.items c.in_ok-columns.columns.items c.args.self.now c.self.invariant c.self.view_is c.requires.ordered c.requires.within (c.in_ok-columns.ensures.columns ∙ ap (map (part_of_column c.args.from c.args.to)) c.as_slice.ensures.value)).1 }
