use Rattle.std.proofs.Common.{◌<◌, length, nat_lt}
use Rattle.qd_base.specs.declared.limits.TheConstants.{MAX_COLUMNS}
use Rattle.qd_base.specs.declared.schema.Schema.{Schema}
use Rattle.qd_base.proofs.Taken.{holds}
use Rattle.qd_validate.proofs.SoughtLemmas.{counted, schema_lacking, schema_tested}
use Rattle.qd_validate.proofs.lawful.has_column_left.Goals as goal

pub returns-in-Some : goal.returns-in-Some
returns-in-Some c = record { left = schema_tested (λ (s : Schema). length s.cols < MAX_COLUMNS) c.args.schemas.now c.args.table.now c.in-Some.i c.get.result.now (nat_lt c.len.result 256) c.in-Some.ensures.position c.get.ensures.item (counted c.len.result (length c.get.result.now.cols) c.len.ensures.count) }

pub returns-in-None : goal.returns-in-None
returns-in-None c = record { left = holds (schema_lacking (λ (s : Schema). length s.cols < MAX_COLUMNS) c.args.schemas.now c.args.table.now c.in-None.ensures.position) }
