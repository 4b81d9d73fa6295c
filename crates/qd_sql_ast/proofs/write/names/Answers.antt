use Rattle.std.proofs.Common.{rules}
use Rattle.qd_sql_ast.specs.Steps.{name}
use Rattle.qd_sql_ast.specs.Writes.{names}
use Rattle.qd_sql_ast.proofs.write.names.Goals as goal

pub returns : goal.returns
unfolding names
returns c = c.list.ensures name (record { reads = search rules })
