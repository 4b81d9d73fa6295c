use Rattle.std.proofs.Common.{All}
use Rattle.qd_base.specs.declared.schema.Schema.{Schema}
use Rattle.qd_base.specs.Lawful.{IsRowOf}
use Rattle.qd_base.proofs.Taken.{holds}
use Rattle.qd_validate.proofs.SoughtLemmas.{schema_lacking, schema_tested}
use Rattle.qd_validate.proofs.lawful.takes_rows.Goals as goal

pub returns-in-Some : goal.returns-in-Some
returns-in-Some c = record { taken = schema_tested (λ (s : Schema). All (IsRowOf s) c.args.rows.now) c.args.schemas.now c.args.table.now c.in-Some.i c.get.result.now c.rows_fit.result c.in-Some.ensures.position c.get.ensures.item c.rows_fit.ensures.rows }

pub returns-in-None : goal.returns-in-None
returns-in-None c = record { taken = holds (schema_lacking (λ (s : Schema). All (IsRowOf s) c.args.rows.now) c.args.schemas.now c.args.table.now c.in-None.ensures.position) }
