use Rattle.std.proofs.Common.{rules}
use Rattle.qd_sql.specs.Queries.{fill, fill_list}
use Rattle.qd_sql.proofs.query.fill_list.Goals as goal

pub returns : goal.returns
unfolding fill_list
returns c = c.list.ensures fill (record { reads = search rules })
