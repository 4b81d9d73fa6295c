use Rattle.qd_txnfile.proofs.Heads.{closed_closed, closed_missing, closed_short}
use Rattle.qd_txnfile.proofs.reading.beside_closed.Goals as goal

pub returns-in-Missing-clause-judged : goal.returns-in-Missing-clause-judged
returns-in-Missing-clause-judged c image closed is = closed_missing c.args.second.now image is closed c.in-Missing.ensures.gate

pub returns-in-Closed-clause-judged : goal.returns-in-Closed-clause-judged
returns-in-Closed-clause-judged c image closed is = closed_closed c.args.second.now image is closed c.in-Closed.ensures.gate

pub returns-in-Short-clause-judged : goal.returns-in-Short-clause-judged
returns-in-Short-clause-judged c image closed is = closed_short c.args.second.now image is closed c.in-Short.ensures.gate
