use Rattle.qd_base.specs.Names.{IsTableName}
use Rattle.qd_manifest.specs.Rules.{is_table_name}
use Rattle.qd_manifest.proofs.NameLemmas.{same_test, table_named, table_test}
use Rattle.qd_manifest.proofs.names.is_table_name.Goals as goal

pub returns : goal.returns
returns c = record { name = same_test c.table_name_ok.result (is_table_name c.args.name.now) (IsTableName c.args.name.now) c.table_name_ok.ensures.ok.0 c.table_name_ok.ensures.ok.1 (table_named c.args.name.now) (table_test c.args.name.now) }
