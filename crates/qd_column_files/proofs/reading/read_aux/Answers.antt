use Rattle.qd_column_files.proofs.GivenLemmas.{aux_given}
use Rattle.qd_column_files.proofs.ReadLemmas.{aux_told, aux_whole}
use Rattle.qd_column_files.proofs.reading.read_aux.Goals as goal

pub returns-in-Symbol-clause-told : goal.returns-in-Symbol-clause-told
returns-in-Symbol-clause-told g c = aux_told c.args.kind _ c.args.file c.read_front.result (aux_whole c.args.kind c.in-Symbol.is) c.read_front.ensures.told

pub returns-in-Symbol-clause-given : goal.returns-in-Symbol-clause-given
returns-in-Symbol-clause-given g c = aux_given g.V.Volume.gives c.args.file c.read_front.result c.read_front.ensures.given
