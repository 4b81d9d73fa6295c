use Rattle.qd_base.proofs.Tables.{added_to, keyed_in}
use Rattle.qd_base.proofs.schemas.Schemas.apply.Goals as goal

pub add_column-requires : goal.add_column-requires
add_column-requires c = added_to c.args.self.now c.args.op.now _ _ _ c.in-AddColumn.is c.bytes.ensures.same c.requires

pub set_keys-requires : goal.set_keys-requires
set_keys-requires c = keyed_in c.args.self.now c.args.op.now _ _ _ c.in-SetKeys.is c.bytes-in-SetKeys.ensures.same c.requires
