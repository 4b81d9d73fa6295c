use Rattle.qd_txnfile.proofs.Heads.{short_missing, short_there}
use Rattle.qd_txnfile.proofs.reading.beside_short.Goals as goal

pub returns-in-Missing : goal.returns-in-Missing
returns-in-Missing c = record { broken = λ image short long is. short_missing c.args.second.now image is short c.in-Missing.ensures.gate }

pub returns-in_default : goal.returns-in_default
returns-in_default c = record { broken = λ image short long is. short_there c.args.second.now image is short c.args.len long c.gate_of.result c.gate_of.ensures.gate c.in_default.not-Missing }
