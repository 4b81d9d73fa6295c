use Rattle.std.proofs.Common.{[], None, refl}
use Rattle.qd_vectors.proofs.sizes.values_for_proofs_take_no_bytes.Goals as goal

pub turn-requires : goal.turn-requires
turn-requires g c = (None, refl)

pub grow-requires : goal.grow-requires
grow-requires g c = (record { ops = [] }, refl)
