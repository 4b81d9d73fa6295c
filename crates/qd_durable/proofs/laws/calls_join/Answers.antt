use Rattle.qd_durable.proofs.Moved.{touches_both}
use Rattle.qd_durable.proofs.laws.calls_join.Goals as goal

pub returns : goal.returns
returns c a b d file at size = touches_both file at size a b d
