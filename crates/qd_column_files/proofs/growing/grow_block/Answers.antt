use Rattle.qd_io.specs.declared.fault.IoFault.{IoFault}
use Rattle.qd_column_files.proofs.GrowLemmas.{block_ungrown}
use Rattle.qd_column_files.proofs.growing.grow_block.Goals as goal

pub returns-in-None-clause-told : goal.returns-in-None-clause-told
returns-in-None-clause-told g c = block_ungrown (Unit {0}) IoFault _ _ c.args.block c.args.tail.now _ c.args.rows.now
