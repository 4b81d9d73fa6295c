use Rattle.qd_column_files.proofs.TailReads.{texts_told}
use Rattle.qd_column_files.proofs.growing.tail_read.Goals as goal

pub returns-clause-told : goal.returns-clause-told
returns-clause-told g c = texts_told c.args.schema.now c.args.part c.args.col c.one_column_is_spelled.ensures (g.V.Volume.storage c.args.volume.now).disk c.in_ok-column.column c.in_ok-tail_of.field-0 c.in_ok-column.ensures.fit c.in_ok-tail_of.ensures.behind c.in_ok-column.ensures.told
