use Rattle.std.proofs.Common.{◌≡◌, ◌∙◌, ℕ, sym, ap, subst}
use Rattle.qd_block.specs.Blocks.{Block, block_of}
use Rattle.qd_scan.specs.Sources.{IsBlockOf}
use Rattle.qd_column_files.proofs.MadeLemmas.{made_designated, made_is, made_rows, made_sorted}
use Rattle.qd_column_files.proofs.reading.block_from.Goals as goal

pub from_columns-requires-clause-designated : goal.from_columns-requires-clause-designated
from_columns-requires-clause-designated c = made_designated c.args.schema.now c.args.part c.args.columns c.requires.schema c.requires.part c.requires.all c.requires.columns

pub unreachable-requires : goal.unreachable-requires
unreachable-requires c =
    let h = c.in-Err.ensures.unsorted in
    made_sorted c.args.schema.now c.args.part c.args.columns c.requires.schema c.requires.part c.requires.all c.requires.columns h.0 h.2

pub returns-clause-block : goal.returns-clause-block
returns-clause-block c =
    let s = c.args.schema.now in
    let p = c.args.part in
    let is : c.in-Ok.block ≡ block_of p.rows s.time_col c.args.columns = c.in-Ok.ensures.block ∙ ap (λ (n : ℕ). block_of n s.time_col c.args.columns) (made_rows s p c.args.columns c.requires.schema c.requires.part c.requires.all c.requires.columns) in
    subst (λ (b : Block). IsBlockOf s p b) (sym is) (made_is s p c.args.columns c.requires.schema c.requires.part c.requires.all c.requires.columns)
