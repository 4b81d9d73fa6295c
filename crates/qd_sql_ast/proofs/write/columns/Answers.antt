use Rattle.std.proofs.Common.{rules}
use Rattle.qd_sql_ast.specs.Writes.{column, columns}
use Rattle.qd_sql_ast.proofs.write.columns.Goals as goal

pub returns : goal.returns
unfolding columns
returns c = c.list.ensures column (record { reads = search rules })
