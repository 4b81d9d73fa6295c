use Rattle.qd_durable.proofs.Moved.{touches_wider}
use Rattle.qd_durable.proofs.laws.ranges_widen.Goals as goal

pub returns : goal.returns
returns c = touches_wider
