use Rattle.qd_durable.proofs.Moved.{piece_stays}
use Rattle.qd_durable.proofs.laws.pieces_stay.Goals as goal

pub returns : goal.returns
returns c = piece_stays
