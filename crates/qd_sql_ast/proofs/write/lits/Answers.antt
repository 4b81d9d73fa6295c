use Rattle.std.proofs.Common.{rules}
use Rattle.qd_sql_ast.specs.Writes.{lit, lits}
use Rattle.qd_sql_ast.proofs.write.lits.Goals as goal

pub returns : goal.returns
unfolding lits
returns c = c.list.ensures lit (record { reads = search rules })
