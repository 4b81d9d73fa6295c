use Rattle.qd_txnfile.proofs.Heads.{lifted, lifted_closed, lifted_short, no_first}
use Rattle.qd_txnfile.proofs.reading.choose.Goals as goal

pub returns-in-Missing-clause-judged : goal.returns-in-Missing-clause-judged
returns-in-Missing-clause-judged c image first second = no_first c.args.first.now image first c.in-Missing.ensures.gate

pub returns-in-Closed-clause-judged : goal.returns-in-Closed-clause-judged
returns-in-Closed-clause-judged c image first second = c.beside_closed.ensures.judged image (lifted_closed c.args.first.now (image 2) first c.in-Closed.ensures.gate) second

pub returns-in-Short-clause-judged : goal.returns-in-Short-clause-judged
returns-in-Short-clause-judged c image first second =
    let is = lifted_short c.args.first.now (image 2) first c.in-Short.ensures.gate in
    c.beside_short.ensures.broken image is.0 is.1 second

pub returns-in-Open-clause-judged : goal.returns-in-Open-clause-judged
returns-in-Open-clause-judged c image first second = c.beside_open.ensures.judged image (lifted c.args.first.now (image 2) 0 _ first c.in-Open.ensures.gate.1) second
