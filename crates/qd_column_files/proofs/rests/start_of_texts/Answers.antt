use Rattle.qd_column_files.proofs.RestReads.{start_by}
use Rattle.qd_column_files.proofs.rests.start_of_texts.Goals as goal

pub returns-in-Varchar-clause-told : goal.returns-in-Varchar-clause-told
returns-in-Varchar-clause-told g c = start_by _ c.args.file c.args.skip c.args.kind c.end_of_rows.result c.in-Varchar.is c.end_of_rows.ensures.told
