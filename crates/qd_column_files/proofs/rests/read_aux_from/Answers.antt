use Rattle.std.proofs.Common.{ap}
use Rattle.qd_base.specs.declared.schema.ColType.{ColType}
use Rattle.qd_column_files.specs.Rests.{aux_from}
use Rattle.qd_column_files.proofs.RestReads.{aux_told}
use Rattle.qd_column_files.proofs.rests.read_aux_from.Goals as goal

pub returns-in-Symbol-clause-told : goal.returns-in-Symbol-clause-told
returns-in-Symbol-clause-told g c = aux_told c.args.kind _ c.args.file c.args.start 0 c.read_part.result (λ bytes. ap (λ (k : ColType). aux_from k c.args.start bytes) c.in-Symbol.is) c.read_part.ensures.told

pub returns-in-Varchar-clause-told : goal.returns-in-Varchar-clause-told
returns-in-Varchar-clause-told g c = aux_told c.args.kind _ c.args.file c.args.start c.args.start c.read_part-in-Varchar.result (λ bytes. ap (λ (k : ColType). aux_from k c.args.start bytes) c.in-Varchar.is) c.read_part-in-Varchar.ensures.told
