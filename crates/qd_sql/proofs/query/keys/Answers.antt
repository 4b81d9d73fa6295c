use Rattle.std.proofs.Common.{rules}
use Rattle.qd_sql.specs.Exprs.{column}
use Rattle.qd_sql.specs.Queries.{keys}
use Rattle.qd_sql.proofs.query.keys.Goals as goal

pub returns : goal.returns
unfolding keys
returns c = c.list.ensures column (record { reads = search rules })
