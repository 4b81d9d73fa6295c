use Rattle.qd_column_files.proofs.RestReads.{rest_fits, rest_told}
use Rattle.qd_column_files.proofs.rests.rest_of.Goals as goal

pub returns-else-col-schema-clause-told : goal.returns-else-col-schema-clause-told
returns-else-col-schema-clause-told g c = rest_told c.args.schema.now c.args.part c.args.times.now c.args.skip c.args.col c.requires.col c.if-col-schema.false _ c.read_column_rest.result c.read_column_rest.ensures.told

pub returns-else-col-schema-clause-fit : goal.returns-else-col-schema-clause-fit
returns-else-col-schema-clause-fit g c = rest_fits c.args.schema.now c.args.part c.args.times.now c.args.skip c.args.col c.if-col-schema.false c.read_column_rest.result c.read_column_rest.ensures.fit
