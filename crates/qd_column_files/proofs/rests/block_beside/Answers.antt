use Rattle.std.proofs.Common.{◌≡◌, ◌∙◌, ◌-◌, ℕ, sym, ap, subst}
use Rattle.qd_block.specs.Blocks.{Block, block_of}
use Rattle.qd_column_files.specs.Rests.{IsRestOf}
use Rattle.qd_column_files.proofs.RestMade.{beside_designated, beside_rest, beside_rows, beside_sorted}
use Rattle.qd_column_files.proofs.rests.block_beside.Goals as goal

pub from_columns-requires-clause-designated : goal.from_columns-requires-clause-designated
from_columns-requires-clause-designated c = beside_designated c.args.schema.now c.args.part c.args.times.now c.args.skip c.args.columns c.requires.schema c.requires.part c.requires.times c.requires.skip c.requires.all c.requires.columns

pub unreachable-requires : goal.unreachable-requires
unreachable-requires c =
    let h = c.in-Err.ensures.unsorted in
    beside_sorted c.args.schema.now c.args.part c.args.times.now c.args.skip c.args.columns c.requires.schema c.requires.part c.requires.times c.requires.skip c.requires.all c.requires.columns h.0 h.2

pub returns-clause-made : goal.returns-clause-made
returns-clause-made c = c.in-Ok.ensures.block ∙ ap (λ (n : ℕ). block_of n c.args.schema.now.time_col c.args.columns) (beside_rows c.args.schema.now c.args.part c.args.times.now c.args.skip c.args.columns c.requires.schema c.requires.part c.requires.times c.requires.skip c.requires.all c.requires.columns)

pub returns-clause-rest : goal.returns-clause-rest
returns-clause-rest c =
    let s = c.args.schema.now in
    let p = c.args.part in
    let is : c.in-Ok.block ≡ block_of (p.rows - c.args.skip) s.time_col c.args.columns = c.in-Ok.ensures.block ∙ ap (λ (n : ℕ). block_of n s.time_col c.args.columns) (beside_rows s p c.args.times.now c.args.skip c.args.columns c.requires.schema c.requires.part c.requires.times c.requires.skip c.requires.all c.requires.columns) in
    subst (λ (b : Block). IsRestOf s p c.args.times.now c.args.skip b) (sym is) (beside_rest s p c.args.times.now c.args.skip c.args.columns c.requires.schema c.requires.part c.requires.times c.requires.skip c.requires.all c.requires.columns)
