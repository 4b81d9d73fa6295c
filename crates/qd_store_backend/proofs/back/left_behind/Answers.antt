use Rattle.qd_store_backend.proofs.Leaving.{kept_there}
use Rattle.qd_store_backend.proofs.back.left_behind.Goals as goal

pub turn-requires : goal.turn-requires
turn-requires g c = kept_there c.one_entry_is_read.ensures c.args.parts.now.history c.args.parts.now.owned c.is_told.ensures.told
