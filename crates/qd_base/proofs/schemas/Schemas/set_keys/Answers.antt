use Rattle.qd_base.proofs.Tables.{keys_set, table_within}
use Rattle.qd_base.proofs.schemas.Schemas.set_keys.Goals as goal

pub rekey-requires : goal.rekey-requires
rekey-requires c = table_within c.args.self.now c.args.table.now c.in-Some.i c.in-Some.ensures.position

pub returns-in-Some-clause-ok : goal.returns-in-Some-clause-ok
returns-in-Some-clause-ok c = keys_set c.args.self.now c.rekey.new.self c.args.table.now c.args.keys.now c.in_ok-keys.keys c.in-Some.i c.in-Some.ensures.position c.in_ok-keys.ensures.same c.rekey.ensures.keys
