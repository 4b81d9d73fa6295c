use Rattle.std.proofs.Common.{rules}
use Rattle.qd_sql_ast.specs.Writes.{tuple, tuples}
use Rattle.qd_sql_ast.proofs.write.tuples.Goals as goal

pub returns : goal.returns
unfolding tuples
returns c = c.list.ensures tuple (record { reads = search rules })
