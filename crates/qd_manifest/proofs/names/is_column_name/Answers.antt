use Rattle.qd_base.specs.Names.{IsColumnName}
use Rattle.qd_manifest.specs.Rules.{is_column_name}
use Rattle.qd_manifest.proofs.NameLemmas.{same_test, column_named, column_test}
use Rattle.qd_manifest.proofs.names.is_column_name.Goals as goal

pub returns : goal.returns
returns c = record { name = same_test c.column_name_ok.result (is_column_name c.args.name.now) (IsColumnName c.args.name.now) c.column_name_ok.ensures.ok.0 c.column_name_ok.ensures.ok.1 (column_named c.args.name.now) (column_test c.args.name.now) }
