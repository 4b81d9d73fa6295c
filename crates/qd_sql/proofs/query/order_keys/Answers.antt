use Rattle.std.proofs.Common.{rules}
use Rattle.qd_sql.specs.Queries.{order_key, order_keys}
use Rattle.qd_sql.proofs.query.order_keys.Goals as goal

pub returns : goal.returns
unfolding order_keys
returns c = c.list.ensures order_key (record { reads = search rules })
