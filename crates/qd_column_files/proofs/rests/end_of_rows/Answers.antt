use Rattle.std.proofs.Common.{refl, arith}
use Rattle.qd_column_files.proofs.RestReads.{start_told}
use Rattle.qd_column_files.proofs.rests.end_of_rows.Goals as goal

pub returns-clause-told : goal.returns-clause-told
returns-clause-told g c = start_told (g.V.Volume.storage c.args.volume.now).disk c.args.file c.args.skip c.saturating_mul.result c.in_ok-n.n c.text_end.result _ c.read.new.buf (omega arith) c.saturating_mul.ensures refl c.in_ok-n.ensures.told (c.text_end.ensures.end c.args.skip)
