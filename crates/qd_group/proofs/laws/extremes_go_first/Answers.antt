use Rattle.qd_group.proofs.ExtremeLaws.{extremes-go-first}
use Rattle.qd_group.proofs.laws.extremes_go_first.Goals as goal

pub returns : goal.returns
returns c = record { law = extremes-go-first }
