use Rattle.std.proofs.Common.{arith}
use Rattle.qd_txnfile.proofs.Heads.{open_closed, open_missing, open_open, open_short}
use Rattle.qd_txnfile.proofs.reading.beside_open.Goals as goal

pub returns-in-Missing-clause-judged : goal.returns-in-Missing-clause-judged
returns-in-Missing-clause-judged c image opened is = open_missing c.args.second.now image is c.args.n (omega (arith, c.ranges.n.fits)) opened c.in-Missing.ensures.gate

pub returns-in-Closed-clause-judged : goal.returns-in-Closed-clause-judged
returns-in-Closed-clause-judged c image opened is = open_closed c.args.second.now image is c.args.n (omega (arith, c.ranges.n.fits)) opened c.in-Closed.ensures.gate

pub returns-in-Short-clause-judged : goal.returns-in-Short-clause-judged
returns-in-Short-clause-judged c image opened is = open_short c.args.second.now image is c.args.n (omega (arith, c.ranges.n.fits)) opened c.in-Short.ensures.gate

pub returns-in-Open-clause-judged : goal.returns-in-Open-clause-judged
returns-in-Open-clause-judged c image opened is =
    open_open c.args.second.now image is c.args.n (omega (arith, c.ranges.n.fits)) opened c.in-Open.other c.in-Open.ensures.gate c.newer_of.result c.newer_of.ensures.first c.newer_of.ensures.second
