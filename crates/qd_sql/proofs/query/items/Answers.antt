use Rattle.std.proofs.Common.{rules}
use Rattle.qd_sql.specs.Queries.{item, items}
use Rattle.qd_sql.proofs.query.items.Goals as goal

pub returns : goal.returns
unfolding items
returns c = c.list.ensures item (record { reads = search rules })
